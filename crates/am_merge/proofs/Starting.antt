-- What starts is sorted as the walk wants it, since it is given in ascending id.
use Rattle.std.proofs.Common.{◌≡◌, List, [], ◌∷◌, filter, Bool, true, false, cond, refl, sym, ap, ◌∙◌, subst, All}
use Rattle.std.specs.Cmp.{IsTotalOrder}
use Rattle.std.specs.Ordering.{is_gt, nat_cmp, ordering_then}
use Rattle.std.specs.declared.cmp.Ordering.{Ordering}
use Rattle.std.specs.declared.cmp.Ordering.TheVariants.{Less, Equal, Greater}
use Rattle.std.proofs.lemmas.Cmp.{nat_cmp_total, nat_list_cmp_total, on_total, then_total}
use Rattle.std.proofs.lemmas.List.Elements.{All-head, All-tail, All-from_recursion}
use Rattle.std.proofs.lemmas.List.Sorted.{All-permutation}
use Rattle.am_types.specs.declared.Key.{Key}
use Rattle.am_types.specs.declared.Key.TheVariants.{Name, Head, Elem}
use Rattle.am_types.specs.declared.OpId.{OpId}
use Rattle.am_types.specs.Order.{bytes_cmp, id_cmp, object_cmp, put_in_order, sorted_by}
use Rattle.am_types.specs.Operations.{Operation, ascending, operation_cmp}
use Rattle.am_types.proofs.Permuted.{operation_total}
use Rattle.am_types.proofs.Rising.{Rises, Rises-sorted_by}
use Rattle.am_types.proofs.Sorting.{IsPermutation-sorted_by}
use Rattle.am_merge.specs.Starts.{Placed, by_placed, by_start}
use Rattle.am_merge.specs.Walk.{Spot, beginning, by_spot, falling_id, lane_of, name_in, rising_id, spot_of, starts}
use Rattle.am_merge.proofs.Beginning.{rises_filtered}
use Rattle.am_merge.proofs.Places.{object_total}
use Rattle.am_merge.proofs.WalkOrder.{falling_total}

-- orders that agree of what is given in order sort alike
module _ {X : Type 0} {T : X → X → Ordering} (total : IsTotalOrder T) (R Q : X → X → Ordering) (agree : (x y : X) → is_gt (T x y) ≡ false → is_gt (R x y) ≡ is_gt (Q x y)) where
  put_alike : (x : X) (ys : List X) → All (λ y. is_gt (T x y) ≡ false) ys → put_in_order R x ys ≡ put_in_order Q x ys
  put_alike x [] all = refl
  put_alike x (y ∷ ys) all =
      let again : put_in_order R x ys ≡ put_in_order Q x ys = put_alike x ys (All-tail (λ y. is_gt (T x y) ≡ false) y ys all) in
      λ i. cond (agree x y (All-head (λ y. is_gt (T x y) ≡ false) y ys all) i) (y ∷ again i) (x ∷ y ∷ ys)

  sorted_alike : (xs : List X) → Rises total xs → sorted_by R xs ≡ sorted_by Q xs
  sorted_alike [] r = refl
  sorted_alike (x ∷ xs) r =
      ap (put_in_order R x) (sorted_alike xs r.1)
      ∙ put_alike x (sorted_by Q xs) (All-permutation (λ y. is_gt (T x y) ≡ false) xs (sorted_by Q xs) (IsPermutation-sorted_by Q xs) (All-from_recursion (λ y. is_gt (T x y) ≡ false) xs r.0))

-- the id decides only what is given in order
left_out : (o l n r : Ordering) → is_gt r ≡ false → is_gt (ordering_then o (ordering_then l (ordering_then n (ordering_then r Equal)))) ≡ is_gt (ordering_then o (ordering_then l (ordering_then n Equal)))
left_out Less l n r e = refl
left_out Greater l n r e = refl
left_out Equal Less n r e = refl
left_out Equal Greater n r e = refl
left_out Equal Equal Less r e = refl
left_out Equal Equal Greater r e = refl
left_out Equal Equal Equal Less e = refl
left_out Equal Equal Equal Equal e = refl
left_out Equal Equal Equal Greater e = e

same_parts : (o n : Ordering) (b c : Bool) (k l : Key) (i j : OpId) → is_gt (id_cmp i j) ≡ false
    → is_gt (ordering_then o (ordering_then (nat_cmp (lane_of b k) (lane_of c l)) (ordering_then n (ordering_then (id_cmp (rising_id b i) (rising_id c j)) (id_cmp (falling_id c j) (falling_id b i))))))
    ≡ is_gt (ordering_then o (ordering_then (nat_cmp (lane_of b k) (lane_of c l)) (ordering_then n (id_cmp (falling_id c j) (falling_id b i)))))
same_parts o n true true k l i j e = refl
same_parts o n false false k l i j e = left_out o (nat_cmp (lane_of false k) (lane_of false l)) n (id_cmp i j) e
same_parts o n true false k (Name m) i j e = refl
same_parts o n true false k Head i j e = refl
same_parts o n true false k (Elem m) i j e = refl
same_parts o n false true (Name m) l i j e = refl
same_parts o n false true Head l i j e = refl
same_parts o n false true (Elem m) l i j e = refl

same_turns : (x y : Operation) → is_gt (operation_cmp x y) ≡ false → is_gt (by_spot x y) ≡ is_gt (by_start x y)
same_turns x y e = same_parts (object_cmp x.op.obj y.op.obj) (bytes_cmp (name_in x.op.key) (name_in y.op.key)) x.op.insert y.op.insert x.op.key y.op.key x.id y.id e

pub starts_alike : (A : List Operation) → ascending A ≡ A → sorted_by by_start (filter starts A) ≡ beginning A
starts_alike A e = sym (sorted_alike operation_total by_spot by_start same_turns (filter starts A) (rises_filtered starts A (subst (Rises operation_total) e (Rises-sorted_by operation_total A))))

pub by_start_total : IsTotalOrder by_start
by_start_total =
    on_total spot_of
    (then_total (on_total (λ (s : Spot). s.obj) object_total)
    (then_total (on_total (λ (s : Spot). lane_of s.insert s.key) nat_cmp_total)
    (then_total (on_total (λ (s : Spot). name_in s.key) nat_list_cmp_total) (on_total (λ (s : Spot). falling_id s.insert s.id) falling_total))))

pub by_placed_total : IsTotalOrder by_placed
by_placed_total = on_total (λ (p : Placed). p.operation) by_start_total
