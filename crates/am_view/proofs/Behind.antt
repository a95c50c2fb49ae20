-- What a row of a valid set shows is told by the rows that come after it in its slot.
use Rattle.std.proofs.Common.{◌≡◌, ◌<◌, List, [], ◌∷◌, ◌++◌, map, filter, Bool, true, false, ◌&&◌, ◌==◌, refl, sym, ap, ◌∙◌, subst, inl, inr, Contains, arith}
use Rattle.std.specs.Bool.{⊤}
use Rattle.std.specs.List.{list_any, AllByRecursion}
use Rattle.std.specs.Ordering.{is_eq, is_gt, ordering_then}
use Rattle.std.specs.declared.cmp.Ordering.TheVariants.{Equal}
use Rattle.std.proofs.lemmas.Bool.{cases_Bool, and_parts, and_from}
use Rattle.std.proofs.lemmas.Cmp.{tied_itself, eq_by_cmp_equiv}
use Rattle.std.proofs.lemmas.Map.Views.{Contains-from_any, list_any-from_Contains}
use Rattle.std.proofs.lemmas.List.Elements.{Contains-append_cases, Contains-append_right, Contains-push_cases}
use Rattle.std.proofs.lemmas.List.{append_assoc}
use Rattle.std.proofs.lemmas.List.Sorted.{Contains-permutation}
use Rattle.am_types.specs.declared.OpId.{OpId}
use Rattle.am_types.specs.declared.ObjId.{ObjId}
use Rattle.am_types.specs.declared.Key.{Key}
use Rattle.am_types.specs.declared.Key.TheVariants.{Name, Head, Elem}
use Rattle.am_types.specs.declared.Row.{Row}
use Rattle.am_types.specs.Actions as actions
use Rattle.am_types.specs.Order.{id_cmp, object_cmp, among}
use Rattle.am_types.specs.Same.{same_id, same_object}
use Rattle.am_types.specs.Operations.{Operation, operation_cmp, ascending, all_operations}
use Rattle.am_types.specs.Operations as operation
use Rattle.am_types.specs.Members.{Member, changes}
use Rattle.am_types.specs.Elements.{elements, inserts_into}
use Rattle.am_types.specs.Places.{slot_cmp}
use Rattle.am_types.specs.ValidSets.{Valid}
use Rattle.am_types.specs.Rows.{rows, kept, succs}
use Rattle.am_laws.proofs.Ancestry.{Contains-filter, Contains-from_filter}
use Rattle.am_laws.proofs.DistinctOperations.{distinct_ids_valid}
use Rattle.am_laws.proofs.Following.{follow_references}
use Rattle.am_types.proofs.Lists.{Contains-head, Contains-tail}
use Rattle.am_laws.proofs.ListingLaws.{one_per_id}
use Rattle.am_types.proofs.Orders.{id_total, same_id-true}
use Rattle.am_types.proofs.Permuted.{operation_total}
use Rattle.am_laws.proofs.References.{refers}
use Rattle.am_types.proofs.Rising.{Rises, Rises-sorted_by, filter-sorted_by}
use Rattle.am_types.proofs.SameLaws.{same_object-true}
use Rattle.am_laws.proofs.ValidSetLaws.{grounds_valid}
use Rattle.am_view.specs.Reads.{slot, increments, is_increment}
use Rattle.am_view.specs.Steps.{ahead, stands_in}
use Rattle.am_view.proofs.Lists.{any_within, any-filter}
use Rattle.am_view.proofs.Sorts.{sorted_by-map, Contains-sorted_by, Contains-from_sorted_by}
use Rattle.am_places.proofs.PlaceOrder.{object_total}
use Rattle.am_view.proofs.Places.{slot_total}
use Rattle.am_view.proofs.Folded.{names}
use Rattle.am_view.proofs.Showing.{row, rows_is, listed, by_place, stays}
use Rattle.am_view.proofs.Named.{named_at}
use Rattle.am_view.proofs.InSlot.{SlotIn, IsIn, place_less, rows_total, filter_ahead, stands_in-true}
use Rattle.am_view.proofs.Apart.{IsBelow, Climbs, Apart, apart_of, apart_sorted, apart_filter, climbs_by, below_by}

from_map : {X Y : Type 0} (f : X → Y) (xs : List X) (y : Y) → Contains (map f xs) y → (x : X) × Contains xs x × (f x ≡ y)
from_map f [] y c = absurd (omega (arith, c.1))
from_map f (x ∷ xs) y c =
    let again : Contains (map f xs) y → (z : _) × Contains xs z × (f z ≡ y) = from_map f xs y in
    elim (Contains-append_cases (f x ∷ []) (map f xs) y c) [
      | inl h ↦ elim (Contains-push_cases [] (f x) y h) [ inl n ↦ absurd (omega (arith, n.1)) | inr e ↦ (x, Contains-head x xs, e) ]
      | inr t ↦ let a = again t in (a.0, Contains-tail x xs a.0 a.1, a.2)
    ]

to_map : {X Y : Type 0} (f : X → Y) (xs : List X) (x : X) → Contains xs x → Contains (map f xs) (f x)
to_map f [] x c = absurd (omega (arith, c.1))
to_map f (z ∷ xs) x c =
    let again : Contains xs x → Contains (map f xs) (f x) = to_map f xs x in
    elim (Contains-append_cases (z ∷ []) xs x c) [
      | inl h ↦ elim (Contains-push_cases [] z x h) [ inl n ↦ absurd (omega (arith, n.1)) | inr e ↦ subst (λ y. Contains (f z ∷ map f xs) (f y)) e (Contains-head (f z) (map f xs)) ]
      | inr t ↦ Contains-tail (f z) (map f xs) (f x) (again t)
    ]

and_true : (b : Bool) → (b && true) ≡ b
and_true true = refl
and_true false = refl

any_by_filter : {X : Type 0} (p : X → Bool) (xs : List X) → list_any p xs ≡ list_any (λ x. true) (filter p xs)
any_by_filter p xs = any_within p (λ x. p x && true) xs (λ x c. sym (and_true (p x))) ∙ sym (any-filter (λ x. true) p xs)

-- ---- rows of one slot climb

-- the ids of operations that are apart, told of their rows
abbrev RowsApart : List Row → Type 0
RowsApart [] = ⊤
RowsApart (r ∷ rs) = AllByRecursion (λ (i : Row). r.id ≡ i.id → ⊥) rs × RowsApart rs

module _ (es : ObjId → List OpId) where
  below_ahead : (r i : Row) (o : ObjId) (k : Key) → stands_in o k r ≡ true → stands_in o k i ≡ true → is_gt (place_less es r i) ≡ false → (r.id ≡ i.id → ⊥) → IsBelow r.id i.id
  below_ahead r i o k sr si g n =
      let a = stands_in-true o k r sr in
      let b = stands_in-true o k i si in
      let obj : object_cmp r.obj i.obj ≡ Equal = (λ j. object_cmp (a.0 j) (b.0 j)) ∙ tied_itself object_total o in
      let slots : slot_cmp (es r.obj) (slot r) (slot i) ≡ Equal = (λ j. slot_cmp (es r.obj) (a.1 j) (b.1 j)) ∙ tied_itself (slot_total (es r.obj)) k in
      below_by r.id i.id (sym (ap is_gt (λ j. ordering_then (obj j) (ordering_then (slots j) (id_cmp r.id i.id)))) ∙ g) n

  below_all_ahead : (r : Row) (o : ObjId) (k : Key) → stands_in o k r ≡ true → (rs : List Row) → AllByRecursion (λ i. is_gt (place_less es r i) ≡ false) rs → AllByRecursion (λ (i : Row). r.id ≡ i.id → ⊥) rs → AllByRecursion (IsBelow r.id) (map (λ i. i.id) (ahead o k rs))
  below_all_ahead r o k sr [] g n = tt
  below_all_ahead r o k sr (i ∷ rs) g n = elim (cases_Bool (stands_in o k i)) [
    | inl t ↦ simp t (below_ahead r i o k sr t g.0 n.0, below_all_ahead r o k sr rs g.1 n.1)
    | inr t ↦ simp t tt
  ]

  climbs_ahead : (o : ObjId) (k : Key) (rs : List Row) → Rises (rows_total es) rs → RowsApart rs → Climbs (map (λ i. i.id) (ahead o k rs))
  climbs_ahead o k [] g n = tt
  climbs_ahead o k (r ∷ rs) g n = elim (cases_Bool (stands_in o k r)) [
    | inl t ↦ simp t (below_all_ahead r o k t rs g.0 n.0, climbs_ahead o k rs g.1 n.1)
    | inr t ↦ simp t tt
  ]

  rises_behind : (before rs : List Row) → Rises (rows_total es) (before ++ rs) → Rises (rows_total es) rs
  rises_behind [] rs g = g
  rises_behind (b ∷ before) rs g = rises_behind before rs g.1

apart_behind : (before rs : List Row) → RowsApart (before ++ rs) → RowsApart rs
apart_behind [] rs a = a
apart_behind (b ∷ before) rs a = apart_behind before rs a.1

-- ---- the rows of a valid set

module _ (C : List Member) (v : Valid C) where
  abbrev S : List Operation
  S = all_operations (changes C)

  abbrev rs : List Row
  rs = rows S

  in_ascending : (x : Operation) → Contains S x → Contains (ascending S) x
  in_ascending x c = Contains-sorted_by operation_cmp S x c

  row_from : (r : Row) → Contains rs r → (x : Operation) × Contains S x × (row S x ≡ r)
  row_from r c =
      let f = from_map (row S) (filter stays (listed S)) r (subst (λ l. Contains l r) (rows_is S) c) in
      (f.0, Contains-from_sorted_by operation_cmp S f.0 (Contains-from_sorted_by (by_place S) (ascending S) f.0 (Contains-from_filter stays (listed S) f.0 f.1).0), f.2)

  rows_rise : Rises (rows_total (elements S)) rs
  unfolding rows
  rows_rise = subst (λ l. Rises (rows_total (elements S)) l) (sorted_by-map (place_less (elements S)) (row S) (kept S)) (Rises-sorted_by (rows_total (elements S)) (map (row S) (kept S)))

  apart_ascending : Apart (ascending S)
  apart_ascending = apart_sorted operation_cmp S (apart_of S (distinct_ids_valid C v))

  rows_of_apart : (xs : List Operation) → Apart xs → RowsApart (map (row S) xs)
  rows_of_apart [] a = tt
  rows_of_apart (x ∷ xs) a = (all_rows xs a.0, rows_of_apart xs a.1)
    where
      all_rows : (ys : List Operation) → AllByRecursion (λ y. x.id ≡ y.id → ⊥) ys → AllByRecursion (λ (i : Row). x.id ≡ i.id → ⊥) (map (row S) ys)
      all_rows [] all = tt
      all_rows (y ∷ ys) all = (all.0, all_rows ys all.1)

  rows_apart : RowsApart rs
  rows_apart = subst RowsApart (sym (rows_is S)) (rows_of_apart (filter stays (listed S)) (apart_filter stays (listed S) (apart_sorted (by_place S) (ascending S) apart_ascending)))

  -- successors climb
  pub succs_climb : (r : Row) → Contains rs r → Climbs r.succs
  succs_climb r c =
      let f = row_from r c in
      let x = f.0 in
      let named : Operation → Bool = λ y. names y x.id in
      subst (λ (i : Row). Climbs i.succs) f.2
      (climbs_by (filter named (ascending S))
      (subst (λ l. Rises operation_total l) (sym (filter-sorted_by operation_total named S)) (Rises-sorted_by operation_total (filter named S)))
      (apart_filter named (ascending S) apart_ascending))

  own_object : (o : ObjId) → same_object o o ≡ true
  own_object o = ap is_eq (tied_itself object_total o)

  element_listed : (y : Operation) → Contains S y → inserts_into y.op.obj y ≡ true → Contains (elements S y.op.obj) y.id
  element_listed y c t =
      Contains-permutation _ (elements S y.op.obj) y.id (follow_references C v y.op.obj).ids
      (to_map (λ (x : Operation). x.id) (filter (inserts_into y.op.obj) (ascending S)) y (Contains-filter (inserts_into y.op.obj) (ascending S) y (in_ascending y c) t))

  slot_in : (y : Operation) → Contains S y → IsIn (elements S y.op.obj) (operation.slot y)
  slot_in y c = elim (cases_Bool y.op.insert) [
    | inl t ↦ simp t (element_listed y c (and_from y.op.insert _ t (own_object y.op.obj)))
    | inr t ↦ simp t (go y.op.key refl)
  ]
    where
      go : (k : Key) → y.op.key ≡ k → IsIn (elements S y.op.obj) k
      go Head e = tt
      go (Name n) e = tt
      go (Elem r) e =
          let f = refers C (grounds_valid C v) y c r e in
          let into = and_parts f.insertion.op.insert (same_object f.insertion.op.obj y.op.obj) f.inserts in
          let obj : f.insertion.op.obj ≡ y.op.obj = same_object-true f.insertion.op.obj y.op.obj into.1 in
          let there : Contains (elements S f.insertion.op.obj) f.insertion.id = element_listed f.insertion f.is_among (and_from _ _ into.0 (own_object f.insertion.op.obj)) in
          subst (Contains (elements S y.op.obj)) f.has_id (subst (λ o. Contains (elements S o) f.insertion.id) obj there)

  slots_in : (i : Row) → Contains rs i → SlotIn (elements S) i
  slots_in i c = let f = row_from i c in subst (SlotIn (elements S)) f.2 (slot_in f.0 f.1)

  -- a row with the id of a successor stands later in the slot
  succ_later : (r i : Row) → Contains rs r → Contains rs i → among id_cmp r.succs i.id ≡ true → (i.obj ≡ r.obj) × (slot i ≡ slot r) × (r.id.counter < i.id.counter)
  succ_later r i cr ci t =
      let fx = row_from r cr in
      let fy = row_from i ci in
      let x = fx.0 in
      let y = fy.0 in
      let g = grounds_valid C v in
      let distinct : (a b : Operation) → Contains S a → Contains S b → a.id ≡ b.id → a ≡ b = one_per_id C v in
      let found : Contains (succs S x.id) y.id = Contains-from_any same_id-true y.id (succs S x.id) (subst (λ (k : Row). among id_cmp (succs S x.id) k.id ≡ true) (sym fy.2) (subst (λ (k : Row). among id_cmp k.succs i.id ≡ true) (sym fx.2) t)) in
      let z = from_map (λ (w : Operation). w.id) (filter (λ w. names w x.id) (ascending S)) y.id found in
      let n = Contains-from_filter (λ w. names w x.id) (ascending S) z.0 z.1 in
      let cz : Contains S z.0 = Contains-from_sorted_by operation_cmp S z.0 n.0 in
      let is : z.0 ≡ y = distinct z.0 y cz fy.1 z.2 in
      let named : names y x.id ≡ true = subst (λ w. names w x.id ≡ true) is n.1 in
      let m = named_at C g y fy.1 x.id named in
      let same : m.of ≡ x = distinct m.of x m.inside fx.1 m.id in
      let Here : Row → Row → Type 0 = λ a b. (b.obj ≡ a.obj) × (slot b ≡ slot a) × (a.id.counter < b.id.counter) in
      let here : Here (row S x) (row S y) = (
        sym m.obj ∙ ap (λ (w : Operation). w.op.obj) same,
        sym m.slot ∙ ap operation.slot same,
        subst (λ (w : Operation). w.id.counter < y.id.counter) same m.low,
      ) in
      subst (Here r) fy.2 (subst (λ a. Here a (row S y)) fx.2 here)

  module _ (before : List Row) (r : Row) (after : List Row) (split : rs ≡ before ++ r ∷ after) where
    pub contains_row : Contains rs r
    contains_row = subst (λ l. Contains l r) (sym split) (Contains-append_right before (r ∷ after) r (Contains-head r after))

    abbrev coming : List Row
    coming = ahead r.obj (slot r) after

    look : (p : Row → Bool) → ((i : Row) → p i ≡ true → among id_cmp r.succs i.id ≡ true) → filter p rs ≡ filter p coming
    look p named =
        ap (filter p) split
        ∙ filter_ahead (elements S) p before r after (subst (λ l. Rises (rows_total (elements S)) l) split rows_rise)
        (λ i c. slots_in i (subst (λ l. Contains l i) (sym split) c))
        (λ i c t. succ_later r i contains_row (subst (λ l. Contains l i) (sym split) c) (named i t))

    pub increments_ahead : (covers : OpId → Bool) → increments covers rs r ≡ increments covers coming r
    increments_ahead covers = look (λ i. covers i.id && i.action == actions.inc && among id_cmp r.succs i.id) (λ i t. (and_parts _ _ t).1)

    pub increment_ahead : (s : OpId) → Contains r.succs s → is_increment rs s ≡ is_increment coming s
    increment_ahead s c =
        let p : Row → Bool = λ i. i.action == actions.inc && same_id i.id s in
        any_by_filter p rs
        ∙ ap (list_any (λ (x : Row). true)) (look p (λ i t. subst (λ k. among id_cmp r.succs k ≡ true) (sym (same_id-true i.id s (and_parts (i.action == actions.inc) (same_id i.id s) t).1)) (list_any-from_Contains (eq_by_cmp_equiv id_total) s r.succs c)))
        ∙ sym (any_by_filter p coming)

    pub coming_climbs : Climbs (map (λ i. i.id) coming)
    coming_climbs =
        climbs_ahead (elements S) r.obj (slot r) after
        (rises_behind (elements S) (before ++ r ∷ []) after (subst (λ l. Rises (rows_total (elements S)) l) shifted rows_rise))
        (apart_behind (before ++ r ∷ []) after (subst RowsApart shifted rows_apart))
      where
        shifted : rs ≡ (before ++ r ∷ []) ++ after
        shifted = split ∙ sym (append_assoc before (r ∷ []) after)
