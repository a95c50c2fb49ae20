use Rattle.std.proofs.Common.{◌≡◌, sym, subst, ◌∙◌}
use Rattle.std.specs.BTreeMap.{keys}
use Rattle.std.specs.Map.Iter.{deref}
use Rattle.std.proofs.lemmas.Map.Iter.{iter_end}
use Rattle.am_types.specs.Order.{hash_cmp, Ascends}
use Rattle.am_delivery.specs.Waiting.{unboxed}
use Rattle.am_delivery.proofs.Boxes.{unboxed_keys}
use Rattle.am_store.proofs.Hashes.{keys_hashes}
use Rattle.am_store.proofs.Picking.{ascend}
use Rattle.am_store.proofs.waiting.Waiting.hashes.Goals as goal

pub returns-clause-hashes : goal.returns-clause-hashes
returns-clause-hashes c =
    let w = c.args.self.now.changes in
    let start : c.into_iter-hash-iterator.result ≡ keys w = c.into_iter-hash-iterator.ensures.into_iter_gives ∙ c.keys-hash-items.ensures.rest in
    let all = iter_end deref (keys w) c.loop-hash.yielded _ _ _ c.next.result start c.loop-hash.yielded_by c.in-None.is c.next.ensures.steps in
    c.loop-hash.invariant ∙ all.0 ∙ sym (unboxed_keys w.entries) ∙ keys_hashes (unboxed w.entries)

pub returns-clause-ascend : goal.returns-clause-ascend
returns-clause-ascend c =
    let w = c.args.self.now.changes in
    let start : c.into_iter-hash-iterator.result ≡ keys w = c.into_iter-hash-iterator.ensures.into_iter_gives ∙ c.keys-hash-items.ensures.rest in
    let all = iter_end deref (keys w) c.loop-hash.yielded _ _ _ c.next.result start c.loop-hash.yielded_by c.in-None.is c.next.ensures.steps in
    subst (Ascends hash_cmp) (sym (c.loop-hash.invariant ∙ all.0)) (ascend (keys w) c.keys-hash-items.ensures.ordered)
