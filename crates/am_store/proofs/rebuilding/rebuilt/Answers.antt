use Rattle.std.proofs.Common.{sym, ◌≡◌, Ok, Err, vec_items, subst}
use Rattle.am_rebuild.specs.Documents.{Rebuilds, changes_of}
use Rattle.am_types.specs.Canonical.{order}
use Rattle.am_delivery.specs.Waiting.{members_of}
use Rattle.am_store.proofs.Rebuilds.{only_memory, in_its_order}
use Rattle.am_store.proofs.rebuilding.rebuilt.Goals as goal

pub no_memory-requires : goal.no_memory-requires
no_memory-requires c =
    let C = c.requires.0 in
    let is = c.requires.1 in
    only_memory c.document_is_history.ensures c.listing_is_free.ensures C is.valid is.own_hashes c.in-Err.fault (subst (λ t. Rebuilds t (Err c.in-Err.fault)) (c.doc_of.ensures C is) c.in-Err.ensures.judged)

pub returns-in-Ok : goal.returns-in-Ok
returns-in-Ok c = λ C is.
    let es = vec_items c.in-Ok.document.entries in
    let told = subst (λ t. Rebuilds t (Ok (changes_of es))) (c.doc_of.ensures C is) c.in-Ok.ensures.judged in
    subst (λ l. members_of l ≡ order C) (sym c.entries_of.ensures)
    (in_its_order c.document_is_history.ensures c.listing_is_free.ensures C is.valid is.own_hashes es told.0 c.in-Ok.ensures.own_hashes)
