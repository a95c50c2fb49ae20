use Rattle.std.proofs.Common.{◌≡◌, ◌∷◌, [], ◌++◌, List, map, sym, ap, subst, ◌∙◌}
use Rattle.std.specs.Global.{Box}
use Rattle.std.specs.Map.Iter.{deref_pair}
use Rattle.std.specs.BTreeMap.{insert_entry}
use Rattle.std.specs.Map.{keys_of}
use Rattle.std.specs.List.Sorted.{IsStrictlySortedBy}
use Rattle.std.proofs.lemmas.List.{map-append}
use Rattle.std.proofs.lemmas.Map.Iter.{rest_so_far, iter_end}
use Rattle.am_types.specs.declared.Hash.{Hash}
use Rattle.am_types.specs.declared.Change.{Change}
use Rattle.am_types.specs.Order.{hash_cmp}
use Rattle.am_delivery.specs.Waiting.{out_of_box, unboxed}
use Rattle.am_delivery.proofs.Boxes.{unboxed_keys, unboxed_parts}
use Rattle.am_store.proofs.Ordered.{insert_last}
use Rattle.am_store.proofs.copies.map_copied.Goals as goal

pub loop-hash-preserved : goal.loop-hash-preserved
loop-hash-preserved c =
    let w = c.args.changes.now in
    let ys : List (Hash × Box Change) = map deref_pair c.loop-hash.yielded in
    let x : Hash × Box Change = (c.in-Some.hash.now, c.in-Some.change.now) in
    let rest : List (Hash × Box Change) = c.next.new.self in
    let before : c.into_iter-hash-iterator.result ≡ ys ++ c.loop-hash.hash-iterator = rest_so_far deref_pair c.loop-hash.yielded _ _ c.loop-hash.yielded_by in
    let step : c.loop-hash.hash-iterator ≡ x ∷ rest = c.in-Some.ensures.steps in
    let start : c.into_iter-hash-iterator.result ≡ w.entries = c.into_iter-hash-iterator.ensures.into_iter_gives ∙ c.iter-hash-items.ensures.rest in
    let whole : unboxed w.entries ≡ unboxed ys ++ out_of_box x ∷ unboxed rest = unboxed_parts w.entries ys rest x (sym start ∙ before ∙ ap (λ l. ys ++ l) step) in
    let ascend : IsStrictlySortedBy hash_cmp (keys_of (unboxed w.entries)) = subst (IsStrictlySortedBy hash_cmp) (sym (unboxed_keys w.entries)) c.iter-hash-items.ensures.ordered in
    let last : insert_entry hash_cmp (unboxed ys) x.0 x.1.value ≡ unboxed ys ++ out_of_box x ∷ [] =
    insert_last (unboxed ys) (unboxed rest) (out_of_box x) (subst (λ es. IsStrictlySortedBy hash_cmp (keys_of es)) whole ascend) in
    c.in_ok-insert_copy.ensures ∙ (λ i. insert_entry hash_cmp (c.loop-hash.invariant i) x.0 (c.deref.ensures i)) ∙ last
    ∙ sym (ap unboxed (map-append deref_pair c.loop-hash.yielded ((c.in-Some.hash, c.in-Some.change) ∷ [])) ∙ map-append out_of_box ys (x ∷ []))

pub returns : goal.returns
returns c =
    let w = c.args.changes.now in
    let start : c.into_iter-hash-iterator.result ≡ w.entries = c.into_iter-hash-iterator.ensures.into_iter_gives ∙ c.iter-hash-items.ensures.rest in
    let all = iter_end deref_pair w.entries c.loop-hash.yielded _ _ _ c.next.result start c.loop-hash.yielded_by c.in-None.is c.next.ensures.steps in
    c.loop-hash.invariant ∙ ap unboxed all.0
