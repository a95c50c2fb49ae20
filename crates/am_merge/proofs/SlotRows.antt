-- The rows of one slot: of a larger set, those of the smaller merged with the new ones; of a slot of an element, the
-- insertion first.
use Rattle.std.proofs.Common.{◌≡◌, ◌≢◌, List, [], ◌∷◌, ◌++◌, map, filter, Bool, true, false, not, ◌&&◌, refl, sym, ap, ◌∙◌, subst, inl, inr, All, Contains, IsPermutation, arith}
use Rattle.std.specs.Ordering.{is_gt}
use Rattle.std.specs.declared.cmp.Ordering.TheVariants.{Less, Equal}
use Rattle.std.proofs.lemmas.Bool.{cases_Bool, both_ways, and_parts, and_from, false_from_ne_true}
use Rattle.std.proofs.lemmas.List.Elements.{All-contains, All-from_recursion, filter-append}
use Rattle.std.proofs.lemmas.List.Sorted.{IsPermutation-refl, IsPermutation-map}
use Rattle.am_types.specs.declared.OpId.{OpId}
use Rattle.am_types.specs.declared.ObjId.{ObjId}
use Rattle.am_types.specs.declared.Key.TheVariants.{Elem}
use Rattle.am_types.specs.declared.Row.{Row}
use Rattle.am_types.specs.Order.{among, id_cmp}
use Rattle.am_types.specs.Same.{same_object, same_key}
use Rattle.am_types.specs.Operations.{Operation, operation_cmp, ascending, slot, DistinctIds}
use Rattle.am_types.specs.Elements.{inserts_into}
use Rattle.am_types.specs.Rows.{kept, row_of, succs}
use Rattle.am_types.proofs.Lists.{all_of, map_within, Contains-head, Contains-tail}
use Rattle.am_types.proofs.Orders.{id_exact}
use Rattle.am_types.proofs.Permuted.{operation_total}
use Rattle.am_types.proofs.Rising.{Rises, Rises-sorted_by, filter-sorted_by, sorted_by-rising}
use Rattle.am_types.proofs.SameLaws.{same_key-true}
use Rattle.am_types.proofs.Sorting.{IsPermutation-sorted_by}
use Rattle.am_laws.proofs.Ancestry.{Contains-from_filter}
use Rattle.am_laws.proofs.SameMembers.{Contains-cons_cases}
use Rattle.am_merge.specs.Merge.{merge, extended}
use Rattle.am_merge.specs.Plans.{Slot, is_in, new_in}
use Rattle.am_merge.specs.Walk.{gives_value, hangs_on, new_row}
use Rattle.am_merge.proofs.Hanging.{vals}
use Rattle.am_merge.proofs.Lists.{Contains-map, filter-map, filter-filter, filter_within, map-map}
use Rattle.am_merge.proofs.Merging.{merge-map, sorted_by-merge}
use Rattle.am_merge.proofs.Once.{Once, first_alone, once-permutation, once_distinct, once_tail}
use Rattle.am_merge.proofs.Places.{same_key_itself}
use Rattle.am_merge.proofs.PlanLaws.{by_id}
use Rattle.am_merge.proofs.RowsMerged.{Extends, old_row, new_row as row_stays}
use Rattle.am_merge.proofs.Sorts.{Contains-sorted_by, Contains-from_sorted_by}
use Rattle.am_merge.proofs.TurnLaws.{less_above}
use Rattle.am_merge.proofs.Within.{row, stays}

-- an operation that has a row, in the slot s
abbrev pub shows_in : Slot → Operation → Bool
shows_in s x = stays x && (same_object x.op.obj s.0 && same_key (slot x) s.1)

-- the operations of a slot
abbrev pub ops_in : List Operation → Slot → List Operation
ops_in A s = filter (shows_in s) (ascending A)

pub new_in_is : (A : List Operation) (s : Slot) → new_in A s ≡ map (row A) (ops_in A s)
new_in_is A s =
    filter-map (is_in s) (row A) (kept A)
    ∙ ap (map (row A)) (filter-filter (λ x. is_in s (row A x)) stays (ascending A))

ascending_twice : (A : List Operation) → ascending (ascending A) ≡ ascending A
ascending_twice A = sorted_by-rising operation_total (ascending A) (Rises-sorted_by operation_total A)

-- successors are the same of operations in ascending id
pub succs_ascending : (A : List Operation) (i : OpId) → succs (ascending A) i ≡ succs A i
succs_ascending A i = ap (λ l. map (λ (x : Operation). x.id) (filter (λ x. among id_cmp x.op.preds i) l)) (ascending_twice A)

pub new_row_ascending : (A : List Operation) (x : Operation) → new_row (ascending A) x ≡ row A x
new_row_ascending A x = ap (λ s. row_of s x) (succs_ascending A x.id)

pub extended_ascending : (A : List Operation) (r : Row) → extended (ascending A) r ≡ extended A r
extended_ascending A r = ap (λ l. record r { succs = merge id_cmp r.succs l }) (succs_ascending A r.id)

-- ---- of the larger set

module _ (q : OpId → Bool) (S N : List Operation) (h : Extends q S N) where
  abbrev T : List Operation
  T = S ++ N

  one_id : (x y : Operation) → Contains T x → Contains T y → operation_cmp x y ≡ Equal → x ≡ y
  one_id x y cx cy e = h.one x y cx cy (id_exact x.id y.id e)

  ops_merged : (s : Slot) → ops_in (S ++ N) s ≡ merge operation_cmp (ops_in S s) (ops_in N s)
  ops_merged s =
      let p : Operation → Bool = shows_in s in
      let inside : All (Contains T) (filter p T) = all_of (Contains T) (filter p T) (λ x c. (Contains-from_filter p T x c).0) in
      filter-sorted_by operation_total p T
      ∙ sorted_by-merge operation_total (Contains T) one_id (filter p T) (filter p S) (filter p N) inside (subst (IsPermutation (filter p T)) (filter-append p S N) (IsPermutation-refl (filter p T)))
      ∙ (λ i. merge operation_cmp (sym (filter-sorted_by operation_total p S) i) (sym (filter-sorted_by operation_total p N) i))

  pub slot_merged : (s : Slot) → new_in (S ++ N) s ≡ merge by_id (map (extended N) (new_in S s)) (new_in N s)
  slot_merged s =
      new_in_is T s
      ∙ ap (map (row T)) (ops_merged s)
      ∙ merge-map by_id (row T) (ops_in S s) (ops_in N s)
      ∙ (λ i. merge by_id
      ((map_within (row T) (λ x. extended N (row S x)) (ops_in S s) (λ x c. old_row q S N h x) ∙ sym (map-map (extended N) (row S) (ops_in S s)) ∙ ap (map (extended N)) (sym (new_in_is S s))) i)
      ((map_within (row T) (row N) (ops_in N s) (λ x c. row_stays q S N h x (Contains-from_sorted_by operation_cmp N x (Contains-from_filter (shows_in s) (ascending N) x c).0)) ∙ sym (new_in_is N s)) i))

-- ---- of an element

module _ (A : List Operation) (o : ObjId) where
  vals_is : (e : OpId) → vals A o e ≡ filter (λ y. gives_value y && hangs_on o e y) (ascending A)
  vals_is e = filter-filter (hangs_on o e) gives_value (ascending A)

  -- what shows in the slot of an element, and is no insertion, is a value of it
  value_shows : (e : OpId) (y : Operation) → y.op.insert ≡ false → shows_in (o, Elem e) y ≡ (gives_value y && hangs_on o e y)
  value_shows e y f =
      let is : slot y ≡ y.op.key = simp f refl in
      let g : gives_value y ≡ stays y = ap (λ b. not b && stays y) f in
      (λ i. stays y && (same_object y.op.obj o && same_key (is i) (Elem e))) ∙ ap (λ b. b && hangs_on o e y) (sym g)

  insertion_gives_none : (e : OpId) (y : Operation) → y.op.insert ≡ true → (gives_value y && hangs_on o e y) ≡ false
  insertion_gives_none e y t = ap (λ b. (not b && stays y) && hangs_on o e y) t

  -- an insertion shows in the slot of its own element alone
  other_element : (e : OpId) (y : Operation) → y.op.insert ≡ true → y.id ≢ e → shows_in (o, Elem e) y ≡ false
  other_element e y t n = false_from_ne_true (shows_in (o, Elem e) y) (λ s.
      let p = and_parts (stays y) (same_object y.op.obj o && same_key (slot y) (Elem e)) s in
      let k = same_key-true (slot y) (Elem e) (and_parts (same_object y.op.obj o) (same_key (slot y) (Elem e)) p.1).1 in
      let is : slot y ≡ Elem y.id = simp t refl in
      n (elem_is (sym is ∙ k)))
    where
      elem_is : {i j : OpId} → Elem i ≡ Elem j → i ≡ j
      elem_is h = cc

  alike : (e : OpId) (y : Operation) → y.id ≢ e → shows_in (o, Elem e) y ≡ (gives_value y && hangs_on o e y)
  alike e y n = elim (cases_Bool y.op.insert) [
    | inl t ↦ other_element e y t n ∙ sym (insertion_gives_none e y t)
    | inr f ↦ value_shows e y f
  ]

  -- where no insertion makes the element
  pub values_alone : (e : OpId) → ((y : Operation) → Contains A y → y.op.insert ≡ true → y.id ≢ e) → ops_in A (o, Elem e) ≡ vals A o e
  values_alone e none =
      filter_within (shows_in (o, Elem e)) (λ y. gives_value y && hangs_on o e y) (ascending A)
      (λ y c. elim (cases_Bool y.op.insert) [
        | inl t ↦ other_element e y t (none y (Contains-from_sorted_by operation_cmp A y c) t) ∙ sym (insertion_gives_none e y t)
        | inr f ↦ value_shows e y f
      ])
      ∙ sym (vals_is e)

  -- an insertion comes first in the slot of its element
  module _ (x : Operation) (into_it : inserts_into o x ≡ true) (has_row : stays x ≡ true) where
    abbrev v : Operation → Bool
    v y = gives_value y && hangs_on o x.id y

    abbrev Above : List Operation → Type 0
    Above L = (y : Operation) → Contains L y → v y ≡ true → id_cmp x.id y.id ≡ Less

    parts : (x.op.insert ≡ true) × (same_object x.op.obj o ≡ true)
    parts = and_parts x.op.insert (same_object x.op.obj o) into_it

    it_shows : shows_in (o, Elem x.id) x ≡ true
    it_shows =
        let is : slot x ≡ Elem x.id = let t = parts.0 in simp t refl in
        and_from (stays x) (same_object x.op.obj o && same_key (slot x) (Elem x.id)) has_row
        (and_from (same_object x.op.obj o) (same_key (slot x) (Elem x.id)) parts.1 (ap (λ k. same_key k (Elem x.id)) is ∙ same_key_itself (Elem x.id)))

    go : (L : List Operation) → Rises operation_total L → Once (map (λ (y : Operation). y.id) L) → Contains L x → Above L → filter (shows_in (o, Elem x.id)) L ≡ x ∷ filter v L
    go [] r once c h = absurd (omega (arith, c.1))
    go (z ∷ L) r once c h = elim (Contains-cons_cases z L x c) [
      | inl e ↦ let shows : shows_in (o, Elem x.id) z ≡ true = subst (λ w. shows_in (o, Elem x.id) w ≡ true) (sym e) it_shows in
          let gives : v z ≡ false = subst (λ w. v w ≡ false) (sym e) (insertion_gives_none x.id x parts.0) in
          let alone : (y : Operation) → Contains L y → y.id ≢ x.id = λ y d same. first_alone z.id (map (λ (y : Operation). y.id) L) once
          (subst (Contains (map (λ (y : Operation). y.id) L)) (same ∙ ap (λ (w : Operation). w.id) (sym e)) (Contains-map (λ (y : Operation). y.id) L y d)) in
          let rest : filter (shows_in (o, Elem x.id)) L ≡ filter v L = filter_within (shows_in (o, Elem x.id)) v L (λ y d. alike x.id y (alone y d)) in
          simp (shows, gives) (λ i. e i ∷ rest i)
      | inr d ↦ let apart : z.id ≢ x.id = λ same. first_alone z.id (map (λ (y : Operation). y.id) L) once (subst (Contains (map (λ (y : Operation). y.id) L)) (sym same) (Contains-map (λ (y : Operation). y.id) L x d)) in
          let low : is_gt (id_cmp z.id x.id) ≡ false = All-contains (λ w. is_gt (operation_cmp z w) ≡ false) L x (All-from_recursion (λ w. is_gt (operation_cmp z w) ≡ false) L r.0) d in
          let gives : v z ≡ false = false_from_ne_true (v z) (λ t. both_ways (is_gt (id_cmp z.id x.id)) low (less_above x.id z.id (h z (Contains-head z L) t))) in
          let shows : shows_in (o, Elem x.id) z ≡ false = alike x.id z apart ∙ gives in
          simp (shows, gives) (go L r.1 (once_tail z.id (map (λ (y : Operation). y.id) L) once) d (λ y c. h y (Contains-tail z L y c)))
    ]

    pub insertion_first : Contains A x → DistinctIds A → ((y : Operation) → Contains A y → y.op.key ≡ Elem x.id → id_cmp x.id y.id ≡ Less) → ops_in A (o, Elem x.id) ≡ x ∷ vals A o x.id
    insertion_first c distinct above =
        go (ascending A) (Rises-sorted_by operation_total A)
        (once-permutation (map (λ (y : Operation). y.id) A) (map (λ (y : Operation). y.id) (ascending A)) (IsPermutation-map (λ (y : Operation). y.id) A (ascending A) (IsPermutation-sorted_by operation_cmp A)) (once_distinct A distinct))
        (Contains-sorted_by operation_cmp A x c)
        (λ y d t. above y (Contains-from_sorted_by operation_cmp A y d) (named y t))
        ∙ ap (λ l. x ∷ l) (sym (vals_is x.id))
      where
        named : (y : Operation) → v y ≡ true → y.op.key ≡ Elem x.id
        named y t = same_key-true y.op.key (Elem x.id) (and_parts (same_object y.op.obj o) (same_key y.op.key (Elem x.id)) (and_parts (gives_value y) (hangs_on o x.id y) t).1).1
