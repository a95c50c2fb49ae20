-- What the rows of a set show of a part of it is the replay of that part.
use Rattle.std.proofs.Common.{◌≡◌, List, [], map, filter, fold, Bool, true, false, not, ◌&&◌, ◌==◌, refl, sym, ap, ◌∙◌, inl, inr, Contains, pos, ℤ, ◌+ℤ◌}
use Rattle.std.specs.List.{list_any}
use Rattle.std.specs.Ordering.{on}
use Rattle.std.specs.declared.cmp.Ordering.{Ordering}
use Rattle.std.proofs.Math.IntN.{+ℤ_comm, +ℤ_assoc}
use Rattle.std.proofs.lemmas.Bool.{cases_Bool, both_ways, and_parts, and_from, eqb-true, false_from_ne_true, not-true}
use Rattle.std.proofs.lemmas.Cmp.{on_total, eq_by_cmp_equiv}
use Rattle.std.proofs.lemmas.List.Folds.{fold-map, Any-from_list_any, list_any-from_Any}
use Rattle.am_types.specs.declared.OpId.{OpId}
use Rattle.am_types.specs.declared.ObjId.{ObjId}
use Rattle.am_types.specs.declared.Row.{Row}
use Rattle.am_types.specs.declared.Entry.{Entry}
use Rattle.am_types.specs.Actions as actions
use Rattle.am_types.specs.Order.{id_cmp, same, among, sorted_by}
use Rattle.am_types.specs.Same.{same_id}
use Rattle.am_types.specs.Values.{amount}
use Rattle.am_types.specs.Operations.{Operation, operation_cmp, ascending, slot}
use Rattle.am_types.specs.Elements.{elements, HasReference, RespectsReferences, part}
use Rattle.am_types.specs.Places.{place_cmp}
use Rattle.am_types.specs.Replay.{replay, entry_of, is_counter_entry, entry_place}
use Rattle.am_types.specs.Rows.{rows, row_of, succs, operation_place}
use Rattle.am_types.proofs.Orders.{id_total, same_id-true, same_id_itself}
use Rattle.am_types.proofs.Rising.{filter-sorted_by}
use Rattle.am_types.proofs.Permuted.{operation_total}
use Rattle.am_laws.proofs.Ancestry.{Contains-from_filter}
use Rattle.am_view.specs.Reads.{is_shown, is_increment, removes, increments, total, entry, shown}
use Rattle.am_view.proofs.Lists.{filter_within, any_within, filter-map, map-map, filter-filter, any-map, any-filter}
use Rattle.am_types.proofs.Lists.{map_within, all_of}
use Rattle.am_laws.proofs.Growth.{same_answers}
use Rattle.am_view.proofs.Sorts.{sorted_by-agree, sorted_by-map, fold-sorted_by, Contains-sorted_by, Contains-from_sorted_by}
use Rattle.am_view.proofs.Places.{place_total, place_agree}
use Rattle.am_view.proofs.Folded.{filter_none, names, gives, is_inc, left, adds, grown, is_left, final, visible_is}
use Rattle.am_view.proofs.Folded as folded
use Rattle.am_view.proofs.Orderly.{Orderly, orderly_part}
use Rattle.am_laws.proofs.Parts.{elements_part}

-- ---- replay, said of each operation

-- the order of operations in the document of S
abbrev pub by_place : List Operation → Operation → Operation → Ordering
by_place S = on operation_place (place_cmp (elements S))

-- the operations of S in document order
abbrev pub listed : List Operation → List Operation
listed S = sorted_by (by_place S) (ascending S)

-- the slot of an operation that is there is there
has_slot : (q : OpId → Bool) (x : Operation) → q x.id ≡ true → HasReference q x.op.key → HasReference q (slot x)
has_slot q x qx h = elim (cases_Bool x.op.insert) [ inl e ↦ simp e qx | inr e ↦ simp e h ]

module _ (q : OpId → Bool) (S : List Operation) (orderly : Orderly S) (anchored : RespectsReferences q S) where
  abbrev A : List Operation
  A = part q S

  -- the operations of the part ascend as they do in the whole
  pub ascending_part : ascending A ≡ part q (ascending S)
  ascending_part = sym (filter-sorted_by operation_total (λ x. q x.id) S)

  in_part : (x : Operation) → Contains (ascending A) x → Contains S x × (q x.id ≡ true)
  in_part x c = Contains-from_filter (λ x. q x.id) S x (Contains-from_sorted_by operation_cmp A x c)

  abbrev HasSlot : Operation → Type 0
  HasSlot x = HasReference q (slot x)

  -- the order of places of the part is that of the whole
  pub same_order : (xs : List Operation) → ((x : Operation) → Contains xs x → Contains (ascending A) x) → sorted_by (by_place A) xs ≡ sorted_by (by_place S) xs
  same_order xs inside =
      ap (λ (es : ObjId → List OpId). sorted_by (on operation_place (place_cmp es)) xs) (λ i o. elements_part q S anchored o i)
      ∙ sorted_by-agree (on operation_place (place_cmp (λ o. filter q (elements S o)))) (by_place S) HasSlot
      (λ x y hx hy. place_agree q (elements S) (operation_place x) (operation_place y) hx hy) xs
      (all_of HasSlot xs (λ x c. let p = in_part x (inside x c) in has_slot q x p.1 (anchored x p.0 p.1)))

  abbrev ends : Operation → Entry
  ends y = final (ascending A) y

  replay_is : replay A ≡ map ends (filter (is_left (ascending A)) (part q (listed S)))
  unfolding replay
  replay_is =
      let zs : List Operation = ascending A in
      let o = orderly_part q S orderly in
      ap (sorted_by (on entry_place (place_cmp (elements A)))) (visible_is A o.earlier o.idle)
      ∙ sorted_by-map (on entry_place (place_cmp (elements A))) ends (filter (is_left zs) zs)
      ∙ ap (map ends) (same_order (filter (is_left zs) zs) (λ x c. (Contains-from_filter (is_left zs) zs x c).0))
      ∙ ap (map ends) (sym (filter-sorted_by (on_total operation_place (place_total (elements S))) (is_left zs) zs))
      ∙ ap (λ l. map ends (filter (is_left zs) (sorted_by (by_place S) l))) ascending_part
      ∙ ap (λ l. map ends (filter (is_left zs) l)) (sym (filter-sorted_by (on_total operation_place (place_total (elements S))) (λ x. q x.id) (ascending S)))

-- ---- shown, said of each operation

abbrev pub stays : Operation → Bool
stays x = not (x.op.action == actions.del)

abbrev pub row : List Operation → Operation → Row
row S x = row_of (succs S x.id) x

pub rows_is : (S : List Operation) → rows S ≡ map (row S) (filter stays (listed S))
unfolding rows
rows_is S = ap (map (row S)) (sym (filter-sorted_by (on_total operation_place (place_total (elements S))) stays (ascending S)))

exchange : (t a b : ℤ) → (t +ℤ a) +ℤ b ≡ (t +ℤ b) +ℤ a
exchange t a b = +ℤ_assoc t a b ∙ ap (λ c. t +ℤ c) (+ℤ_comm a b) ∙ sym (+ℤ_assoc t b a)

and_assoc : (a b c : Bool) → (a && (b && c)) ≡ ((a && b) && c)
and_assoc true b c = refl
and_assoc false b c = refl

-- what gives an entry or increments is no deletion
gives_stays : (y : Operation) → gives y ≡ true → stays y ≡ true
gives_stays y g = elim (cases_Bool (y.op.action == actions.del)) [
  | inl d ↦ let e : y.op.action ≡ actions.del = eqb-true y.op.action actions.del d in absurd (both_ways (gives y) (rw e refl) g)
  | inr d ↦ simp d refl
]

inc_stays : (y : Operation) → (stays y && is_inc y) ≡ is_inc y
inc_stays y = elim (cases_Bool (y.op.action == actions.del)) [
  | inl d ↦ let e : y.op.action ≡ actions.del = eqb-true y.op.action actions.del d in rw e refl
  | inr d ↦ simp d refl
]

shown_cases : (d q g n : Bool) → (g ≡ true → d ≡ true) → (d && (q && g && n)) ≡ (q && (g && n))
shown_cases true true g n h = refl
shown_cases true false g n h = refl
shown_cases false q true n h = absurd (both_ways false refl (h refl))
shown_cases false true false n h = refl
shown_cases false false false n h = refl

removes_cases : (n q c i : Bool) → (n && (q && not (c && i))) ≡ (q && (n && not (i && c)))
removes_cases true true true true = refl
removes_cases true true true false = refl
removes_cases true true false true = refl
removes_cases true true false false = refl
removes_cases true false c i = refl
removes_cases false true c i = refl
removes_cases false false c i = refl

counts_cases : (d q i n : Bool) → (d && i) ≡ i → (d && (q && i && n)) ≡ (q && (i && n))
counts_cases true q i n h = λ k. q_assoc q i n k
  where
    q_assoc : (q i n : Bool) → (q && i && n) ≡ (q && (i && n))
    q_assoc true i n = refl
    q_assoc false i n = refl
counts_cases false true true n h = absurd (both_ways false refl h)
counts_cases false true false n h = refl
counts_cases false false i n h = refl

module _ (S : List Operation) (orderly : Orderly S) where
  -- of the operations with the id of y there is just y
  any_one : (L : List Operation) → ((z : Operation) → Contains L z → Contains S z) → (g : Operation → Bool) (y : Operation) → Contains L y → list_any (λ z. g z && same_id z.id y.id) L ≡ g y
  any_one L inside g y cy =
      same_answers (list_any (λ z. g z && same_id z.id y.id) L) (g y)
      (λ t. let a = Any-from_list_any (λ z. g z && same_id z.id y.id) L t in
      let both = and_parts (g a.1) (same_id a.1.id y.id) a.4 in
      let one : a.1 ≡ y = orderly.distinct a.1 y (inside a.1 (a.0, a.2, a.3)) (inside y cy) (same_id-true a.1.id y.id both.1) in
      ap g (sym one) ∙ both.0)
      (λ t. list_any-from_Any (λ z. g z && same_id z.id y.id) L (cy.0, y, cy.1, cy.2, and_from (g y) _ t (same_id_itself y.id)))

  in_listed : (x : Operation) → Contains (listed S) x → Contains S x
  in_listed x c = Contains-from_sorted_by operation_cmp S x (Contains-from_sorted_by (by_place S) (ascending S) x c)

  to_listed : (x : Operation) → Contains S x → Contains (listed S) x
  to_listed x c = Contains-sorted_by (by_place S) (ascending S) x (Contains-sorted_by operation_cmp S x c)

  increment_told : (y : Operation) → Contains S y → is_increment (rows S) y.id ≡ is_inc y
  increment_told y c =
      let p : Row → Bool = λ i. i.action == actions.inc && same_id i.id y.id in
      ap (list_any p) (rows_is S) ∙ any-map p (row S) (filter stays (listed S)) ∙ any-filter (λ z. is_inc z && same_id z.id y.id) stays (listed S)
      ∙ any_within (λ z. stays z && (is_inc z && same_id z.id y.id)) (λ z. (stays z && is_inc z) && same_id z.id y.id) (listed S) (λ z cz. and_assoc (stays z) (is_inc z) (same_id z.id y.id))
      ∙ any_one (listed S) in_listed (λ z. stays z && is_inc z) y (to_listed y c)
      ∙ inc_stays y

  succ_told : (x y : Operation) → Contains S y → among id_cmp (succs S x.id) y.id ≡ names y x.id
  succ_told x y c =
      any-map (same id_cmp y.id) (λ (z : Operation). z.id) (filter (λ z. names z x.id) (ascending S))
      ∙ any-filter (λ z. same id_cmp y.id z.id) (λ z. names z x.id) (ascending S)
      ∙ any_within (λ z. names z x.id && same id_cmp y.id z.id) (λ z. names z x.id && same_id z.id y.id) (ascending S) (λ z cz. ap (λ b. names z x.id && b) ((eq_by_cmp_equiv id_total).symm y.id z.id))
      ∙ any_one (ascending S) (Contains-from_sorted_by operation_cmp S) (λ z. names z x.id) y (Contains-sorted_by operation_cmp S y c)

module _ (q : OpId → Bool) (S : List Operation) (orderly : Orderly S) (anchored : RespectsReferences q S) where
  abbrev rs : List Row
  rs = rows S

  abbrev zs : List Operation
  zs = ascending (part q S)

  any_removes : (x : Operation) → list_any (λ s. q s && removes rs (row S x) s) (succs S x.id) ≡ list_any (λ y. folded.removes y (entry_of x)) zs
  any_removes x =
      any-map (λ s. q s && removes rs (row S x) s) (λ (y : Operation). y.id) (filter (λ y. names y x.id) (ascending S))
      ∙ any-filter (λ y. q y.id && removes rs (row S x) y.id) (λ y. names y x.id) (ascending S)
      ∙ any_within (λ y. names y x.id && (q y.id && removes rs (row S x) y.id)) (λ y. q y.id && folded.removes y (entry_of x)) (ascending S)
      (λ y c. ap (λ b. names y x.id && (q y.id && not (is_counter_entry (entry_of x) && b))) (increment_told S orderly y (Contains-from_sorted_by operation_cmp S y c))
      ∙ removes_cases (names y x.id) (q y.id) (is_counter_entry (entry_of x)) (is_inc y))
      ∙ sym (ap (list_any (λ y. folded.removes y (entry_of x))) (ascending_part q S orderly anchored) ∙ any-filter (λ y. folded.removes y (entry_of x)) (λ y. q y.id) (ascending S))

  same_shown : (x : Operation) → (stays x && is_shown q rs (row S x)) ≡ (q x.id && is_left zs x)
  same_shown x =
      shown_cases (stays x) (q x.id) (gives x) (not (list_any (λ s. q s && removes rs (row S x) s) (succs S x.id))) (gives_stays x)
      ∙ ap (λ b. q x.id && (gives x && not b)) (any_removes x)

  abbrev add : ℤ → Operation → ℤ
  add t y = t +ℤ amount y.op.value

  added : (x : Operation) → fold (λ t i. t +ℤ amount i.value) (amount x.op.value) (increments q rs (row S x)) ≡ fold add (amount x.op.value) (filter (adds (entry_of x)) zs)
  added x =
      let p : Row → Bool = λ i. q i.id && i.action == actions.inc && among id_cmp (succs S x.id) i.id in
      let v = amount x.op.value in
      ap (λ l. fold (λ t i. t +ℤ amount i.value) v (filter p l)) (rows_is S)
      ∙ ap (fold (λ t i. t +ℤ amount i.value) v) (filter-map p (row S) (filter stays (listed S)))
      ∙ fold-map (λ t i. t +ℤ amount i.value) (row S) v (filter (λ y. p (row S y)) (filter stays (listed S)))
      ∙ ap (fold add v) (filter-filter (λ y. p (row S y)) stays (listed S) ∙ filter-sorted_by (on_total operation_place (place_total (elements S))) (λ y. stays y && p (row S y)) (ascending S))
      ∙ fold-sorted_by (by_place S) add (λ t y z. exchange t (amount y.op.value) (amount z.op.value)) v (filter (λ y. stays y && p (row S y)) (ascending S))
      ∙ ap (fold add v) (filter_within (λ y. stays y && p (row S y)) (λ y. q y.id && adds (entry_of x) y) (ascending S)
      (λ y c. counts_cases (stays y) (q y.id) (is_inc y) (among id_cmp (succs S x.id) y.id) (inc_stays y) ∙ ap (λ b. q y.id && (is_inc y && b)) (succ_told S orderly x y (Contains-from_sorted_by operation_cmp S y c)))
      ∙ sym (ap (filter (adds (entry_of x))) (ascending_part q S orderly anchored) ∙ filter-filter (adds (entry_of x)) (λ y. q y.id) (ascending S)))

  same_total : (x : Operation) → is_left zs x ≡ true → total q rs (row S x) ≡ (final zs x).total
  same_total x l = elim (cases_Bool (is_counter_entry (entry_of x))) [
    | inl c ↦ simp c (added x)
    | inr c ↦ simp c (ap (fold add (pos 0)) (sym (none_adds c)))
  ]
    where
      none_removes : (y : Operation) → Contains zs y → folded.removes y (entry_of x) ≡ false
      none_removes y cy = false_from_ne_true _ (λ t. both_ways _ (not-true _ (and_parts (gives x) (left zs (entry_of x)) l).1) (list_any-from_Any (λ y. folded.removes y (entry_of x)) zs (cy.0, y, cy.1, cy.2, t)))

      and_true : (b : Bool) → (b && true) ≡ b
      and_true true = refl
      and_true false = refl

      not_adds : (n i c : Bool) → c ≡ false → (n && not (i && c)) ≡ false → (i && n) ≡ false
      not_adds n false c e h = refl
      not_adds n true c e h = sym (and_true n) ∙ ap (λ b. n && not b) (sym e) ∙ h

      none_adds : is_counter_entry (entry_of x) ≡ false → filter (adds (entry_of x)) zs ≡ []
      none_adds c = filter_none (adds (entry_of x)) zs (λ y cy.
          let gone : folded.removes y (entry_of x) ≡ false = none_removes y cy in
          not_adds (names y x.id) (is_inc y) (is_counter_entry (entry_of x)) c gone)

  same_entry : (x : Operation) → is_left zs x ≡ true → entry q rs (row S x) ≡ final zs x
  same_entry x l = ap (λ t. record { obj = x.op.obj; slot = slot x; id = x.id; action = x.op.action; value = x.op.value; total = t }) (same_total x l)

  pub shown_is : shown q (rows S) ≡ replay (part q S)
  unfolding shown
  shown_is =
      ap (λ l. map (entry q rs) (filter (is_shown q rs) l)) (rows_is S)
      ∙ ap (map (entry q rs)) (filter-map (is_shown q rs) (row S) (filter stays (listed S)))
      ∙ map-map (entry q rs) (row S) (filter (λ x. is_shown q rs (row S x)) (filter stays (listed S)))
      ∙ ap (map (λ x. entry q rs (row S x))) (filter-filter (λ x. is_shown q rs (row S x)) stays (listed S) ∙ filter_within (λ x. stays x && is_shown q rs (row S x)) (λ x. q x.id && is_left zs x) (listed S) (λ x c. same_shown x))
      ∙ map_within (λ x. entry q rs (row S x)) (final zs) (filter (λ x. q x.id && is_left zs x) (listed S))
      (λ x c. same_entry x (and_parts (q x.id) (is_left zs x) (Contains-from_filter (λ x. q x.id && is_left zs x) (listed S) x c).1).1)
      ∙ ap (map (final zs)) (sym (filter-filter (is_left zs) (λ x. q x.id) (listed S)))
      ∙ sym (replay_is q S orderly anchored)
