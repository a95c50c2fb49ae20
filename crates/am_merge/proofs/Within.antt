-- The rows of a part of some operations are those of all, without the others.
use Rattle.std.proofs.Common.{◌≡◌, List, map, filter, Bool, true, not, ◌==◌, sym, ap, ◌∙◌, inl, inr, Contains}
use Rattle.std.specs.Ordering.{on}
use Rattle.std.specs.declared.cmp.Ordering.{Ordering}
use Rattle.std.proofs.lemmas.Bool.{cases_Bool}
use Rattle.std.proofs.lemmas.Cmp.{on_total}
use Rattle.am_types.specs.declared.OpId.{OpId}
use Rattle.am_types.specs.declared.ObjId.{ObjId}
use Rattle.am_types.specs.declared.Row.{Row}
use Rattle.am_types.specs.Actions as actions
use Rattle.am_types.specs.Order.{id_cmp, among, sorted_by}
use Rattle.am_types.specs.Operations.{Operation, operation_cmp, ascending, slot}
use Rattle.am_types.specs.Elements.{elements, HasReference, part, RespectsReferences}
use Rattle.am_types.specs.Places.{place_cmp}
use Rattle.am_types.specs.Rows.{rows, row_of, succs, operation_place}
use Rattle.am_laws.proofs.Ancestry.{Contains-from_filter}
use Rattle.am_types.proofs.Lists.{all_of, map_within}
use Rattle.am_laws.proofs.Parts.{elements_part}
use Rattle.am_types.proofs.Permuted.{operation_total}
use Rattle.am_types.proofs.Rising.{filter-sorted_by}
use Rattle.am_merge.specs.Merge.{row_within, rows_within}
use Rattle.am_merge.proofs.Lists.{filter-map, map-map, filter_swap}
use Rattle.am_merge.proofs.Sorts.{sorted_by-agree, Contains-from_sorted_by}
use Rattle.am_merge.proofs.Places.{place_total, place_agree}

abbrev pub names : Operation → OpId → Bool
names y id = among id_cmp y.op.preds id

-- the order of operations in the document of S
abbrev pub by_place : List Operation → Operation → Operation → Ordering
by_place S = on operation_place (place_cmp (elements S))

-- the operations of S in document order
abbrev pub listed : List Operation → List Operation
listed S = sorted_by (by_place S) (ascending S)

abbrev pub stays : Operation → Bool
stays x = not (x.op.action == actions.del)

abbrev pub row : List Operation → Operation → Row
row S x = row_of (succs S x.id) x

pub rows_is : (S : List Operation) → rows S ≡ map (row S) (filter stays (listed S))
unfolding rows
rows_is S = ap (map (row S)) (sym (filter-sorted_by (on_total operation_place (place_total (elements S))) stays (ascending S)))

-- the slot of an operation that is there is there
has_slot : (q : OpId → Bool) (x : Operation) → q x.id ≡ true → HasReference q x.op.key → HasReference q (slot x)
has_slot q x qx h = elim (cases_Bool x.op.insert) [ inl e ↦ simp e qx | inr e ↦ simp e h ]

module _ (q : OpId → Bool) (S : List Operation) (respects : RespectsReferences q S) where
  abbrev A : List Operation
  A = part q S

  -- the operations of the part ascend as they do in the whole
  pub ascending_part : ascending A ≡ part q (ascending S)
  ascending_part = sym (filter-sorted_by operation_total (λ x. q x.id) S)

  in_part : (x : Operation) → Contains (ascending A) x → Contains S x × (q x.id ≡ true)
  in_part x c = Contains-from_filter (λ x. q x.id) S x (Contains-from_sorted_by operation_cmp A x c)

  abbrev HasSlot : Operation → Type 0
  HasSlot x = HasReference q (slot x)

  -- the order of places of the part is that of the whole
  pub same_order : (xs : List Operation) → ((x : Operation) → Contains xs x → Contains (ascending A) x) → sorted_by (by_place A) xs ≡ sorted_by (by_place S) xs
  same_order xs inside =
      ap (λ (es : ObjId → List OpId). sorted_by (on operation_place (place_cmp es)) xs) (λ i o. elements_part q S respects o i)
      ∙ sorted_by-agree (on operation_place (place_cmp (λ o. filter q (elements S o)))) (by_place S) HasSlot
      (λ x y hx hy. place_agree q (elements S) (operation_place x) (operation_place y) hx hy) xs
      (all_of HasSlot xs (λ x c. let p = in_part x (inside x c) in has_slot q x p.1 (respects x p.0 p.1)))

  -- the document order of a part
  pub listed_part : part q (listed S) ≡ listed (part q S)
  listed_part =
      filter-sorted_by (on_total operation_place (place_total (elements S))) (λ x. q x.id) (ascending S)
      ∙ ap (sorted_by (by_place S)) (sym ascending_part)
      ∙ sym (same_order (ascending (part q S)) (λ x c. c))

  pub succs_part : (id : OpId) → filter q (succs S id) ≡ succs (part q S) id
  succs_part id =
      filter-map q (λ (x : Operation). x.id) (filter (λ x. names x id) (ascending S))
      ∙ ap (map (λ x. x.id)) (filter_swap (λ x. q x.id) (λ x. names x id) (ascending S) ∙ ap (filter (λ x. names x id)) (sym ascending_part))

  pub rows_part : rows_within q (rows S) ≡ rows (part q S)
  rows_part =
      ap (rows_within q) (rows_is S)
      ∙ ap (map (row_within q)) (filter-map (λ r. q r.id) (row S) (filter stays (listed S)))
      ∙ map-map (row_within q) (row S) (filter (λ x. q x.id) (filter stays (listed S)))
      ∙ ap (map (λ x. row_within q (row S x))) (filter_swap (λ x. q x.id) stays (listed S) ∙ ap (filter stays) listed_part)
      ∙ map_within (λ x. row_within q (row S x)) (row (part q S)) (filter stays (listed (part q S))) (λ x c. ap (λ s. row_of s x) (succs_part x.id))
      ∙ sym (rows_is (part q S))
