-- The rows of a larger set are the rows of the smaller, merged with those of the further operations.
use Rattle.std.proofs.Common.{◌≡◌, List, [], ◌++◌, map, filter, Bool, true, false, sym, ap, ◌∙◌, All, Contains, IsPermutation, subst}
use Rattle.std.specs.Ordering.{on, ordering_then}
use Rattle.std.specs.declared.cmp.Ordering.{Ordering}
use Rattle.std.specs.declared.cmp.Ordering.TheVariants.{Less, Equal, Greater}
use Rattle.std.proofs.lemmas.Cmp.{on_total}
use Rattle.std.proofs.lemmas.List.{append-nil}
use Rattle.std.proofs.lemmas.List.Elements.{filter-append}
use Rattle.std.proofs.lemmas.List.Sorted.{IsPermutation-refl, IsPermutation-sym, IsPermutation-trans, IsPermutation-append}
use Rattle.am_types.specs.declared.OpId.{OpId}
use Rattle.am_types.specs.declared.ObjId.{ObjId}
use Rattle.am_types.specs.Order.{id_cmp, sorted_by}
use Rattle.am_types.specs.Operations.{Operation, operation_cmp, ascending, OneOperationPerId}
use Rattle.am_types.specs.Elements.{elements, part, RespectsReferences}
use Rattle.am_types.specs.Places.{Place, place_cmp}
use Rattle.am_types.specs.Rows.{rows, row_of, succs, kept, operation_place}
use Rattle.am_types.proofs.Orders.{id_exact}
use Rattle.am_types.proofs.Sorting.{IsPermutation-sorted_by}
use Rattle.am_types.proofs.Rising.{filter-sorted_by}
use Rattle.am_types.proofs.Permuted.{operation_total}
use Rattle.am_laws.proofs.Ancestry.{Contains-from_filter}
use Rattle.am_types.proofs.Lists.{all_of, map_within}
use Rattle.am_laws.proofs.Covered.{filter_whole}
use Rattle.am_merge.specs.Merge.{merge, extended, row_place, merged}
use Rattle.am_merge.proofs.Lists.{map-map, filter_none}
use Rattle.am_merge.proofs.Sorts.{Contains-from_sorted_by}
use Rattle.am_merge.proofs.Places.{place_total}
use Rattle.am_merge.proofs.Within.{names, by_place, stays, row, same_order}
use Rattle.am_merge.proofs.Merging.{sorted_by-merge, merge-map}

-- places that tie have one id
pub place_id : (es : ObjId → List OpId) (p r : Place) → place_cmp es p r ≡ Equal → p.2 ≡ r.2
place_id es p r e = id_exact p.2 r.2 (last _ _ (last _ _ e))
  where
    last : (a b : Ordering) → ordering_then a b ≡ Equal → b ≡ Equal
    last Less b e = cc
    last Equal b e = e
    last Greater b e = cc

-- E are further operations: S is what q passes of all, refers to none of E, and names none of E
pub record Extends (q : OpId → Bool) (S E : List Operation) : Type 0 where
  pub one : OneOperationPerId (S ++ E)
  pub respects : RespectsReferences q (S ++ E)
  pub old : (x : Operation) → Contains S x → q x.id ≡ true
  pub new : (x : Operation) → Contains E x → q x.id ≡ false
  pub unnamed : (x y : Operation) → Contains E x → Contains S y → names y x.id ≡ false

module _ (q : OpId → Bool) (S E : List Operation) (h : Extends q S E) where
  abbrev T : List Operation
  T = S ++ E

  pub part_is : part q (S ++ E) ≡ S
  part_is =
      filter-append (λ (x : Operation). q x.id) S E
      ∙ (λ i. filter_whole (λ (x : Operation). q x.id) S h.old i ++ filter_none (λ (x : Operation). q x.id) E h.new i)
      ∙ append-nil S

  by_id : (x y : Operation) → Contains T x → Contains T y → operation_cmp x y ≡ Equal → x ≡ y
  by_id x y cx cy e = h.one x y cx cy (id_exact x.id y.id e)

  in_place : (x y : Operation) → Contains T x → Contains T y → by_place T x y ≡ Equal → x ≡ y
  in_place x y cx cy e = h.one x y cx cy (place_id (elements T) (operation_place x) (operation_place y) e)

  -- ---- successors

  named_split : (id : OpId) → filter (λ x. names x id) (ascending T) ≡ merge operation_cmp (filter (λ x. names x id) (ascending S)) (filter (λ x. names x id) (ascending E))
  named_split id =
      let n : Operation → Bool = λ x. names x id in
      let inside : All (Contains T) (filter n T) = all_of (Contains T) (filter n T) (λ x c. (Contains-from_filter n T x c).0) in
      filter-sorted_by operation_total n T
      ∙ sorted_by-merge operation_total (Contains T) by_id (filter n T) (filter n S) (filter n E) inside (subst (IsPermutation (filter n T)) (filter-append n S E) (IsPermutation-refl (filter n T)))
      ∙ (λ i. merge operation_cmp (sym (filter-sorted_by operation_total n S) i) (sym (filter-sorted_by operation_total n E) i))

  pub succs_split : (id : OpId) → succs (S ++ E) id ≡ merge id_cmp (succs S id) (succs E id)
  succs_split id = ap (map (λ x. x.id)) (named_split id) ∙ merge-map id_cmp (λ (x : Operation). x.id) (filter (λ x. names x id) (ascending S)) (filter (λ x. names x id) (ascending E))

  pub old_row : (x : Operation) → row (S ++ E) x ≡ extended E (row S x)
  old_row x = ap (λ s. row_of s x) (succs_split x.id)

  pub new_row : (x : Operation) → Contains E x → row (S ++ E) x ≡ row E x
  new_row x c =
      let none : filter (λ y. names y x.id) (ascending S) ≡ [] = filter_none (λ y. names y x.id) (ascending S) (λ y cy. h.unnamed x y c (Contains-from_sorted_by operation_cmp S y cy)) in
      ap (λ s. row_of s x) (succs_split x.id ∙ ap (λ l. merge id_cmp (map (λ (y : Operation). y.id) l) (succs E x.id)) none)

  -- ---- the rows

  kept_sorted : (Z : List Operation) → kept Z ≡ ascending (filter stays Z)
  kept_sorted Z = filter-sorted_by operation_total stays Z

  kept_permutes : (Z : List Operation) → IsPermutation (filter stays Z) (kept Z)
  kept_permutes Z = subst (IsPermutation (filter stays Z)) (sym (kept_sorted Z)) (IsPermutation-sorted_by operation_cmp (filter stays Z))

  kept_inside : (x : Operation) → Contains (kept T) x → Contains T x
  kept_inside x c = Contains-from_sorted_by operation_cmp T x (Contains-from_filter stays (ascending T) x c).0

  kept_both : IsPermutation (kept T) (kept S ++ kept E)
  kept_both =
      IsPermutation-trans (kept T) (filter stays T) (kept S ++ kept E) (IsPermutation-sym (filter stays T) (kept T) (kept_permutes T))
      (subst (λ l. IsPermutation l (kept S ++ kept E)) (sym (filter-append stays S E)) (IsPermutation-append (filter stays S) (kept S) (filter stays E) (kept E) (kept_permutes S) (kept_permutes E)))

  listed_merge : sorted_by (by_place T) (kept T) ≡ merge (by_place T) (sorted_by (by_place T) (kept S)) (sorted_by (by_place T) (kept E))
  listed_merge = sorted_by-merge (on_total operation_place (place_total (elements T))) (Contains T) in_place (kept T) (kept S) (kept E) (all_of (Contains T) (kept T) kept_inside) kept_both

  pub same_old : sorted_by (by_place (S ++ E)) (kept S) ≡ sorted_by (by_place S) (kept S)
  same_old = subst (λ A. sorted_by (by_place T) (kept A) ≡ sorted_by (by_place A) (kept A)) part_is
      (sym (same_order q T h.respects (kept (part q T)) (λ x c. (Contains-from_filter stays (ascending (part q T)) x c).0)))

  pub rows_merged : rows (S ++ E) ≡ merged (elements (S ++ E)) (rows S) E
  unfolding rows
  rows_merged =
      let es : ObjId → List OpId = elements T in
      let olds : List Operation = sorted_by (by_place S) (kept S) in
      let news : List Operation = sorted_by (by_place T) (kept E) in
      ap (map (row T)) (listed_merge ∙ ap (λ l. merge (by_place T) l news) same_old)
      ∙ merge-map (on row_place (place_cmp es)) (row T) olds news
      ∙ (λ i. merge (on row_place (place_cmp es))
      ((map_within (row T) (λ x. extended E (row S x)) olds (λ x c. old_row x) ∙ sym (map-map (extended E) (row S) olds)) i)
      (map_within (row T) (row E) news (λ x c. new_row x (Contains-from_sorted_by operation_cmp E x (Contains-from_filter stays (ascending E) x (Contains-from_sorted_by (by_place T) (kept E) x c)).0)) i))
