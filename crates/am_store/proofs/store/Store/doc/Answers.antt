use Rattle.std.proofs.Common.{ap, ◌∙◌}
use Rattle.am_types.specs.Documents.{table}
use Rattle.am_delivery.specs.Waiting.{members_of}
use Rattle.am_store.specs.Kept.{Kept}
use Rattle.am_store.proofs.Wholes.{lent}
use Rattle.am_store.proofs.store.Store.doc.Goals as goal

pub doc_of-requires : goal.doc_of-requires
doc_of-requires c = (members_of c.self.inside.closed.entries, lent c.self.inside c.self.invariant c.as_slice.result.now c.as_slice.ensures)

pub returns : goal.returns
returns c =
    let is = lent c.self.inside c.self.invariant c.as_slice.result.now c.as_slice.ensures in
    c.doc_of.ensures (members_of c.self.inside.closed.entries) is ∙ ap (λ (k : Kept). table k.closed) c.self.view_is
