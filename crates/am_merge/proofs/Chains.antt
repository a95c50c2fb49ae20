-- The insert rows of an object stand in the order of its elements.
use Rattle.std.proofs.Common.{ℕ, ◌≡◌, ◌≢◌, ◌+◌, ◌==◌, List, [], ◌∷◌, ◌++◌, length, map, filter, true, false, not, ◌&&◌, refl, sym, ap, ◌∙◌, subst, inl, inr, Contains, arith}
use Rattle.std.specs.Bool.{⊤}
use Rattle.std.specs.Cmp.{IsTotalOrder}
use Rattle.std.specs.List.{AllByRecursion, position_or_len}
use Rattle.std.specs.Ordering.{nat_cmp, is_gt, on, ordering_then, then_cmp}
use Rattle.std.specs.declared.cmp.Ordering.{Ordering}
use Rattle.std.specs.declared.cmp.Ordering.TheVariants.{Less, Equal, Greater}
use Rattle.std.proofs.lemmas.Bool.{cases_Bool, and_parts, eqb-true}
use Rattle.std.proofs.lemmas.Cmp.{nat_cmp_total, on_total, then_total, tied_itself}
use Rattle.std.proofs.lemmas.List.{append_assoc}
use Rattle.std.proofs.lemmas.List.Kept.{AllPairs-filter}
use Rattle.std.proofs.lemmas.List.Elements.{recursion_from_All}
use Rattle.std.proofs.lemmas.List.Sorted.{IsPermutation-trans, IsPermutation-map}
use Rattle.am_types.specs.declared.OpId.{OpId}
use Rattle.am_types.specs.declared.ObjId.{ObjId}
use Rattle.am_types.specs.declared.Key.TheVariants.{Elem}
use Rattle.am_types.specs.declared.Row.{Row}
use Rattle.am_types.specs.Actions as actions
use Rattle.am_types.specs.Order.{id_cmp, object_cmp, sorted_by}
use Rattle.am_types.specs.Same.{same_id, same_object}
use Rattle.am_types.specs.Operations.{Operation, ascending, slot}
use Rattle.am_types.specs.Members.{Member}
use Rattle.am_types.specs.ValidSets.{Valid}
use Rattle.am_types.specs.Elements.{elements, insertions, inserts_into}
use Rattle.am_types.specs.Places.{slot_cmp}
use Rattle.am_types.specs.Rows.{rows, kept, operation_place}
use Rattle.am_laws.proofs.Covered.{filter_whole}
use Rattle.am_laws.proofs.Following.{follow_references}
use Rattle.am_laws.proofs.DistinctOperations.{distinct_ids_valid}
use Rattle.am_types.proofs.Lists.{all_of, Contains-head, Contains-tail}
use Rattle.am_types.proofs.Orders.{id_total, id_exact, same_id-true, same_id_itself}
use Rattle.am_laws.proofs.References.{fine_op}
use Rattle.am_types.proofs.Rising.{AboveNone, Rises, filter-sorted_by, sorted_by-rising}
use Rattle.am_types.proofs.SameLaws.{same_object-true}
use Rattle.am_types.proofs.Sorting.{sorted_by-permutation}
use Rattle.am_laws.proofs.ValidSetLaws.{grounds_valid}
use Rattle.am_chain.specs.Passing.{into}
use Rattle.am_merge.specs.Laws.{operations_of}
use Rattle.am_merge.specs.Slots.{chain}
use Rattle.am_merge.proofs.Lists.{filter-map, map-map, filter_swap}
use Rattle.am_merge.proofs.Once.{Once, once-permutation, once_distinct, once_apart, once_tail}
use Rattle.am_merge.proofs.Places.{place_total, object_total, cmp_less}
use Rattle.am_merge.proofs.Sorts.{sorted_by-agree, sorted_by-map}
use Rattle.am_merge.proofs.StackLaw.{inserted, insertions_permute}
use Rattle.am_merge.proofs.TurnLaws.{ids}
use Rattle.am_merge.proofs.Within.{by_place, stays, row}

pub once_elements : (C : List Member) → Valid C → (o : ObjId) → Once (elements (operations_of C) o)
once_elements C v o =
    let A : List Operation = operations_of C in
    once-permutation (ids (into o A)) (elements A o)
    (IsPermutation-trans (ids (into o A)) (ids (insertions A o)) (elements A o) (IsPermutation-map (λ (x : Operation). x.id) (into o A) (insertions A o) (insertions_permute A o)) (follow_references C v o).ids)
    (once_distinct (into o A) (AllPairs-filter (λ (x y : Operation). x.id ≢ y.id) (inserts_into o) A (distinct_ids_valid C v)))

-- ---- places in a list of ids

-- the place of e in es
abbrev pub place_in : List OpId → OpId → ℕ
place_in es e = position_or_len (same_id e) es

not_same : (a b : OpId) → a ≢ b → same_id a b ≡ false
not_same a b n = elim (cases_Bool (same_id a b)) [ inl t ↦ absurd (n (same_id-true a b t)) | inr f ↦ f ]

place_behind : (e : OpId) (bs fs : List OpId) → (Contains bs e → ⊥) → place_in (bs ++ fs) e ≡ length bs + place_in fs e
place_behind e [] fs n = omega arith
place_behind e (b ∷ bs) fs n =
    let again = place_behind e bs fs (λ c. n (Contains-tail b bs e c)) in
    let f = not_same e b (λ q. n (subst (Contains (b ∷ bs)) (sym q) (Contains-head b bs))) in
    let step : place_in (b ∷ (bs ++ fs)) e ≡ 1 + place_in (bs ++ fs) e = simp f refl in
    omega arith

place_first : (e : OpId) (fs : List OpId) → place_in (e ∷ fs) e ≡ 0
place_first e fs = let t = same_id_itself e in simp t refl

-- behind those that came before, each has the lesser place than all behind it
abbrev pub InPlace : List OpId → List OpId → Type 0
InPlace es [] = ⊤
InPlace es (f ∷ fs) = AllByRecursion (λ g. nat_cmp (place_in es f) (place_in es g) ≡ Less) fs × InPlace es fs

in_place_from : (bs fs : List OpId) → Once (bs ++ fs) → InPlace (bs ++ fs) fs
in_place_from bs [] once = tt
in_place_from bs (f ∷ fs) once = (
  recursion_from_All (λ g. nat_cmp (place_in (bs ++ f ∷ fs) f) (place_in (bs ++ f ∷ fs) g) ≡ Less) fs
      (all_of (λ g. nat_cmp (place_in (bs ++ f ∷ fs) f) (place_in (bs ++ f ∷ fs) g) ≡ Less) fs
      (λ g c.
      let here = place_behind f bs (f ∷ fs) (λ d. once_apart bs (f ∷ fs) once f d (Contains-head f fs)) in
      let zero_here = place_first f fs in
      let there = place_behind g bs (f ∷ fs) (λ d. once_apart bs (f ∷ fs) once g d (Contains-tail f fs g c)) in
      let later = place_behind g (f ∷ []) fs (λ d. alone g c d) in
      cmp_less (place_in (bs ++ f ∷ fs) f) (place_in (bs ++ f ∷ fs) g) (omega arith))),
  subst (λ l. InPlace l fs) (append_assoc bs (f ∷ []) fs) (in_place_from (bs ++ f ∷ []) fs (subst Once (sym (append_assoc bs (f ∷ []) fs)) once)),
)
  where
    tail_once : (bs : List OpId) → Once (bs ++ f ∷ fs) → Once (f ∷ fs)
    tail_once [] o = o
    tail_once (b ∷ bs) o = tail_once bs (once_tail b (bs ++ f ∷ fs) o)

    alone : (g : OpId) → Contains fs g → Contains (f ∷ []) g → ⊥
    alone g c d = once_apart (f ∷ []) fs (tail_once bs once) g d c

pub in_place : (es : List OpId) → Once es → InPlace es es
in_place es once = in_place_from [] es once

-- ---- the chain

module _ (es : List OpId) where
  -- by their place, then by id
  abbrev by_element : OpId → OpId → Ordering
  by_element = then_cmp (on (place_in es) nat_cmp) id_cmp

  element_total : IsTotalOrder by_element
  element_total = then_total (on_total (place_in es) nat_cmp_total) id_total

  element_exact : (a b : OpId) → by_element a b ≡ Equal → a ≡ b
  element_exact a b e = id_exact a b (last (nat_cmp (place_in es a) (place_in es b)) (id_cmp a b) e)
    where
      last : (r s : Ordering) → ordering_then r s ≡ Equal → s ≡ Equal
      last Less s e = cc
      last Equal s e = e
      last Greater s e = cc

  rises_in_place : (fs : List OpId) → InPlace es fs → Rises element_total fs
  rises_in_place [] p = tt
  rises_in_place (f ∷ fs) p = (none fs p.0, rises_in_place fs p.1)
    where
      none : (gs : List OpId) → AllByRecursion (λ g. nat_cmp (place_in es f) (place_in es g) ≡ Less) gs → AboveNone element_total f gs
      none [] a = tt
      none (g ∷ gs) a = (ap (λ r. is_gt (ordering_then r (id_cmp f g))) a.0, none gs a.1)

module _ (C : List Member) (v : Valid C) (o : ObjId) where
  abbrev A : List Operation
  A = operations_of C

  pub insertion_stays : (x : Operation) → Contains (insertions A o) x → stays x ≡ true
  insertion_stays x c =
      let i = inserted A o x c in
      let fine = fine_op C (grounds_valid C v) x i.among in
      let is = (fine.insertion (and_parts x.op.insert (same_object x.op.obj o) i.into_it).0).action.0 in
      not_equal x.op.action is
    where
      not_equal : (a : ℕ) → a ≢ actions.del → not (a == actions.del) ≡ true
      not_equal a n = elim (cases_Bool (a == actions.del)) [
        | inl t ↦ absurd (n (eqb-true a actions.del t))
        | inr f ↦ simp f refl
      ]

  element_order : (x y : Operation) → inserts_into o x ≡ true → inserts_into o y ≡ true → by_place A x y ≡ by_element (elements A o) x.id y.id
  element_order x y ix iy =
      let px = and_parts x.op.insert (same_object x.op.obj o) ix in
      let py = and_parts y.op.insert (same_object y.op.obj o) iy in
      let ox : x.op.obj ≡ o = same_object-true x.op.obj o px.1 in
      let oy : y.op.obj ≡ o = same_object-true y.op.obj o py.1 in
      let tx = px.0 in
      let ty = py.0 in
      let sx : slot x ≡ Elem x.id = simp tx refl in
      let sy : slot y ≡ Elem y.id = simp ty refl in
      (λ i. ordering_then (object_cmp (ox i) (oy i)) (ordering_then (slot_cmp (elements A (ox i)) (sx i) (sy i)) (id_cmp x.id y.id)))
      ∙ ap (λ r. ordering_then r (by_element (elements A o) x.id y.id)) (tied_itself object_total o)

  pub chain_is : chain o (rows (operations_of C)) ≡ elements (operations_of C) o
  unfolding rows
  chain_is =
      let es : List OpId = elements A o in
      let L : List Operation = sorted_by (by_place A) (kept A) in
      let xs : List Operation = insertions A o in
      ap (map (λ (r : Row). r.id)) (filter-map (λ (r : Row). r.insert && same_object r.obj o) (row A) L)
      ∙ map-map (λ (r : Row). r.id) (row A) (filter (inserts_into o) L)
      ∙ ap ids (
      filter-sorted_by (on_total operation_place (place_total (elements A))) (inserts_into o) (kept A)
      ∙ ap (sorted_by (by_place A)) (filter_swap (inserts_into o) stays (ascending A) ∙ filter_whole stays xs insertion_stays)
      ∙ sorted_by-agree (by_place A) (on (λ x. x.id) (by_element es)) (λ x. inserts_into o x ≡ true) element_order xs
      (all_of (λ x. inserts_into o x ≡ true) xs (λ x c. (inserted A o x c).into_it)))
      ∙ sym (sorted_by-map (by_element es) (λ (x : Operation). x.id) xs)
      ∙ sym (sorted_by-permutation (element_total es) (λ _. ⊤) (λ a b _ _ e. element_exact es a b e) (ids xs) es (λ k d l. tt) (follow_references C v o).ids)
      ∙ sorted_by-rising (element_total es) es (rises_in_place es es (in_place es (once_elements C v o)))
