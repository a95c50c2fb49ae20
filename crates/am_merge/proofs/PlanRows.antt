-- In a valid set, the plan for the added changes gives the rows of the larger set.
use Rattle.std.proofs.Common.{zero, suc, ◌≡◌, List, [], ◌∷◌, ◌++◌, map, filter, Bool, true, refl, sym, ap, ◌∙◌, subst, Contains, arith}
use Rattle.std.specs.Ordering.{on}
use Rattle.std.specs.declared.cmp.Ordering.{Ordering}
use Rattle.std.proofs.lemmas.Bool.{and_from}
use Rattle.std.proofs.lemmas.Cmp.{on_total}
use Rattle.std.proofs.lemmas.List.Elements.{Contains-append_left, Contains-append_right}
use Rattle.am_types.specs.declared.OpId.{OpId}
use Rattle.am_types.specs.declared.ObjId.{ObjId}
use Rattle.am_types.specs.declared.Row.{Row}
use Rattle.am_types.specs.Order.{sorted_by}
use Rattle.am_types.specs.Same.{same_object, same_key}
use Rattle.am_types.specs.Operations.{Operation, operation_cmp, ascending, slot}
use Rattle.am_types.specs.Members.{Member}
use Rattle.am_types.specs.ValidSets.{Valid}
use Rattle.am_types.specs.Elements.{elements}
use Rattle.am_types.specs.Places.{place_cmp}
use Rattle.am_types.specs.Rows.{rows, kept, operation_place}
use Rattle.am_laws.proofs.Ancestry.{Contains-from_filter, Contains-filter}
use Rattle.am_types.proofs.Lists.{all_of, Contains-head, Contains-tail}
use Rattle.am_types.proofs.Permuted.{operation_total}
use Rattle.am_types.proofs.Rising.{AboveNone, Rises, Rises-sorted_by, filter-sorted_by, sorted_by-rising}
use Rattle.am_merge.specs.Laws.{operations_of, PlansRows}
use Rattle.am_merge.specs.Merge.{new_rows}
use Rattle.am_merge.specs.Plans.{Slot, is_in, AreSlots, new_in, plan, carried}
use Rattle.am_merge.proofs.Lists.{filter-map}
use Rattle.am_merge.proofs.Sorts.{sorted_by-agree, Contains-sorted_by, Contains-from_sorted_by}
use Rattle.am_merge.proofs.Places.{object_total, place_total, same_key_itself}
use Rattle.am_merge.proofs.Within.{by_place, stays, row}
use Rattle.am_merge.proofs.RowsMerged.{same_old}
use Rattle.am_merge.proofs.Larger.{extends, rows_grown}
use Rattle.am_merge.proofs.StackLaw.{operations_both}
use Rattle.am_merge.proofs.PlanLaws.{total, AllIn, same_slot, joined_is, plan_carried}

same_object_itself : (o : ObjId) → same_object o o ≡ true
same_object_itself o = rw (Rattle.std.proofs.lemmas.Cmp.tied_itself object_total o) refl

pub from_row_map : (A : List Operation) (xs : List Operation) (r : Row) → Contains (map (row A) xs) r → (x : Operation) × Contains xs x × (row A x ≡ r)
from_row_map A [] r c = absurd (omega (arith, c.1))
from_row_map A (x ∷ xs) r (zero, l, e) = (x, Contains-head x xs, e)
from_row_map A (x ∷ xs) r (suc k, l, e) = let f = from_row_map A xs r (k, omega arith, e) in (f.0, Contains-tail x xs f.0 f.1, f.2)

-- rows stand as their operations do
rises_rows : (es : ObjId → List OpId) (A xs : List Operation) → Rises (on_total operation_place (place_total es)) xs → Rises (total A es) (map (row A) xs)
rises_rows es A [] r = tt
rises_rows es A (x ∷ xs) r = (none x xs r.0, rises_rows es A xs r.1)
  where
    none : (x : Operation) (xs : List Operation) → AboveNone (on_total operation_place (place_total es)) x xs → AboveNone (total A es) (row A x) (map (row A) xs)
    none x [] a = tt
    none x (y ∷ xs) a = (a.0, none x xs a.1)

-- the new rows of a slot, whatever the order of places
new_in_is : (es : ObjId → List OpId) (E : List Operation) (s : Slot) → new_in E s ≡ filter (is_in s) (new_rows es E)
new_in_is es E s =
    let p : Operation → Bool = λ x. is_in s (row E x) in
    let R : Operation → Operation → Ordering = on operation_place (place_cmp es) in
    let ks : List Operation = filter stays E in
    let kept_is : kept E ≡ ascending ks = filter-sorted_by operation_total stays E in
    filter-map (is_in s) (row E) (kept E)
    ∙ ap (map (row E)) (
    ap (filter p) kept_is
    ∙ filter-sorted_by operation_total p ks
    ∙ sym (sorted_by-rising operation_total (ascending (filter p ks)) (Rises-sorted_by operation_total (filter p ks)))
    ∙ sym (sorted_by-agree R operation_cmp (λ x. p x ≡ true) (λ x y px py. same_slot E es s (row E x) (row E y) px py) (ascending (filter p ks))
    (all_of (λ x. p x ≡ true) (ascending (filter p ks)) (λ x c. (Contains-from_filter p ks x (Contains-from_sorted_by operation_cmp (filter p ks) x c)).1)))
    ∙ ap (sorted_by R) (sym (filter-sorted_by operation_total p ks) ∙ ap (filter p) (sym kept_is))
    ∙ sym (filter-sorted_by (on_total operation_place (place_total es)) p (kept E)))
    ∙ sym (filter-map (is_in s) (row E) (sorted_by R (kept E)))

in_own_slot : (A : List Operation) (x : Operation) → is_in (x.op.obj, slot x) (row A x) ≡ true
in_own_slot A x = and_from (same_object x.op.obj x.op.obj) (same_key (slot x) (slot x)) (same_object_itself x.op.obj) (same_key_itself (slot x))

-- an operation that has a row has one in the larger set
kept_in : (A T : List Operation) → ((x : Operation) → Contains A x → Contains T x) → (x : Operation) → Contains (kept A) x → Contains (kept T) x
kept_in A T inside x c =
    let f = Contains-from_filter stays (ascending A) x c in
    Contains-filter stays (ascending T) x (Contains-sorted_by operation_cmp T x (inside x (Contains-from_sorted_by operation_cmp A x f.0))) f.1

module _ (C E : List Member) (v : Valid C) (w : Valid (C ++ E)) where
  abbrev S : List Operation
  S = operations_of C

  abbrev N : List Operation
  N = operations_of E

  abbrev T : List Operation
  T = operations_of (C ++ E)

  abbrev es : ObjId → List OpId
  es = elements (operations_of (C ++ E))

  old_inside : (x : Operation) → Contains S x → Contains T x
  old_inside x c = subst (λ l. Contains l x) (sym (operations_both C E)) (Contains-append_left S N x c)

  new_inside : (x : Operation) → Contains N x → Contains T x
  new_inside x c = subst (λ l. Contains l x) (sym (operations_both C E)) (Contains-append_right S N x c)

  old_sorted : sorted_by (by_place T) (kept S) ≡ sorted_by (by_place S) (kept S)
  old_sorted = ap (λ A. sorted_by (by_place A) (kept S)) (operations_both C E) ∙ same_old _ S N (extends C E v w)

  rows_are : rows S ≡ map (row S) (sorted_by (by_place T) (kept S))
  unfolding rows
  rows_are = ap (map (row S)) (sym old_sorted)

  rises_old : Rises (total N es) (rows S)
  rises_old = subst (λ l. Rises (total N es) l) (sym rows_are) (rises_rows es S (sorted_by (by_place T) (kept S)) (Rises-sorted_by (on_total operation_place (place_total es)) (kept S)))

  rises_new : Rises (total N es) (new_rows es N)
  rises_new = rises_rows es N (sorted_by (by_place T) (kept N)) (Rises-sorted_by (on_total operation_place (place_total es)) (kept N))

  all_in : (A : List Operation) → ((x : Operation) → Contains A x → Contains T x) → (ss : List Slot) → AreSlots T ss → AllIn N es ss (map (row A) (sorted_by (by_place T) (kept A)))
  all_in A inside ss slots r c =
      let f = from_row_map A (sorted_by (by_place T) (kept A)) r c in
      let x = f.0 in
      let kx = Contains-from_sorted_by (by_place T) (kept A) x f.1 in
      ((x.op.obj, slot x), slots.all x (kept_in A T inside x kx), subst (λ q. is_in (x.op.obj, slot x) q ≡ true) f.2 (in_own_slot A x))

  pub plan_rows : (ss : List Slot) → AreSlots (operations_of (C ++ E)) ss → carried (plan (operations_of E) ss (rows (operations_of C))) (rows (operations_of C)) ≡ rows (operations_of (C ++ E))
  plan_rows ss slots =
      plan_carried N ss (rows S)
      ∙ joined_is N es ss (rows S) (new_rows es N) slots.ascend rises_old rises_new
      (subst (λ l. AllIn N es ss l) (sym rows_are) (all_in S old_inside ss slots)) (all_in N new_inside ss slots)
      (λ s c. new_in_is es N s)
      ∙ sym (rows_grown C E v w)

pub plans_rows : PlansRows
plans_rows C E v w ss slots = plan_rows C E v w ss slots
