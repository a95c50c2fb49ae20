use Rattle.std.proofs.Common.{◌≡◌, ◌∷◌, ◌++◌, List, map, sym, ap, subst, ◌∙◌}
use Rattle.std.specs.Global.{Box}
use Rattle.std.specs.List.Sorted.{IsStrictlySortedBy}
use Rattle.std.specs.Map.Iter.{deref_pair}
use Rattle.std.proofs.lemmas.Map.Iter.{rest_so_far, iter_end}
use Rattle.am_types.specs.declared.Hash.{Hash}
use Rattle.am_types.specs.declared.Change.{Change}
use Rattle.am_types.specs.Fine.{Fine}
use Rattle.am_types.specs.Members.{Member}
use Rattle.am_types.specs.Order.{hash_cmp}
use Rattle.am_delivery.specs.Waiting.{members_of, out_of_box, unboxed}
use Rattle.am_delivery.proofs.Boxes.{unboxed_keys, unboxed_parts}
use Rattle.am_store.specs.Saved.{chunks}
use Rattle.am_store.proofs.Chunking.{next_fine, stay}
use Rattle.am_store.proofs.saving.push_chunks.Goals as goal

pub chunk_of-requires : goal.chunk_of-requires
chunk_of-requires c =
    let w = c.args.changes.now in
    let ys : List (Hash × Box Change) = map deref_pair c.loop-change.yielded in
    let x : Hash × Box Change = (c.in-Some.field-0-0.now, c.in-Some.change.now) in
    let rest : List (Hash × Box Change) = c.next.new.self in
    let before : c.into_iter-change-iterator.result ≡ ys ++ c.loop-change.change-iterator = rest_so_far deref_pair c.loop-change.yielded _ _ c.loop-change.yielded_by in
    let step : c.loop-change.change-iterator ≡ x ∷ rest = c.in-Some.ensures.steps in
    let start : c.into_iter-change-iterator.result ≡ w.entries = c.into_iter-change-iterator.ensures.into_iter_gives ∙ c.iter-change-items.ensures.rest in
    let whole = unboxed_parts w.entries ys rest x (sym start ∙ before ∙ ap (λ l. ys ++ l) step) in
    subst Fine (sym c.deref.ensures) (next_fine (unboxed w.entries) (unboxed ys) (unboxed rest) (out_of_box x) whole c.requires)

pub returns : goal.returns
returns c =
    let w = c.args.changes.now in
    let start : c.into_iter-change-iterator.result ≡ w.entries = c.into_iter-change-iterator.ensures.into_iter_gives ∙ c.iter-change-items.ensures.rest in
    let all = iter_end deref_pair w.entries c.loop-change.yielded _ _ _ c.next.result start c.loop-change.yielded_by c.in-None.is c.next.ensures.steps in
    c.loop-change.invariant
    ∙ ap (λ es. c.args.file.now ++ chunks (members_of (unboxed es))) all.0
    ∙ ap (λ (W : List Member). c.args.file.now ++ chunks W) (sym (stay (unboxed w.entries) (subst (IsStrictlySortedBy hash_cmp) (sym (unboxed_keys w.entries)) c.iter-change-items.ensures.ordered)))
