-- What a row shows is told by the rows that follow it in its slot.
use Rattle.std.proofs.Common.{◌≡◌, ◌<◌, List, [], ◌∷◌, ◌++◌, filter, Bool, true, false, refl, sym, ap, ◌∙◌, subst, inl, inr, Contains, arith}
use Rattle.std.specs.Bool.{⊤}
use Rattle.std.specs.Cmp.{IsTotalOrder}
use Rattle.std.specs.Ordering.{is_gt, is_eq, on, ordering_then, ordering_reverse}
use Rattle.std.specs.declared.cmp.Ordering.{Ordering}
use Rattle.std.specs.declared.cmp.Ordering.TheVariants.{Less, Equal, Greater}
use Rattle.std.proofs.lemmas.Bool.{cases_Bool, both_ways, and_parts, and_from, false_from_ne_true}
use Rattle.std.proofs.lemmas.Cmp.{on_total, tied_itself}
use Rattle.std.proofs.lemmas.Map.Lookups.{exact_unsigned, exact_bytes}
use Rattle.std.proofs.lemmas.List.Elements.{filter-append, All-contains, All-from_recursion, Contains-append_cases, Contains-append_left, Contains-append_right, Contains-push_cases}
use Rattle.am_types.specs.declared.OpId.{OpId}
use Rattle.am_types.specs.declared.ObjId.{ObjId}
use Rattle.am_types.specs.declared.Key.{Key}
use Rattle.am_types.specs.declared.Key.TheVariants.{Name, Head, Elem}
use Rattle.am_types.specs.declared.Row.{Row}
use Rattle.am_types.specs.Order.{id_cmp, object_cmp}
use Rattle.am_types.specs.Same.{same_object, same_key}
use Rattle.am_types.specs.Places.{Place, slot_cmp, place_cmp}
use Rattle.am_types.proofs.Rising.{Rises}
use Rattle.am_types.proofs.SameLaws.{same_object-true, same_key-true}
use Rattle.am_view.specs.Reads.{slot}
use Rattle.am_view.specs.Steps.{stands_in, ahead}
use Rattle.am_types.proofs.Lists.{Contains-head, Contains-tail}
use Rattle.am_places.proofs.PlaceOrder.{object_total, object_exact}
use Rattle.am_view.proofs.Places.{slot_total, place_total, same_key_itself}
use Rattle.am_view.proofs.Folded.{higher, filter_none}
use Rattle.am_view.proofs.Positions.{position_exact}

-- ---- between two places in one slot

-- neither above nor below
even : (r s : Ordering) → s ≡ ordering_reverse r → is_gt r ≡ false → is_gt s ≡ false → r ≡ Equal
even Less s e a b = absurd (both_ways _ b (rw e refl))
even Equal s e a b = refl
even Greater s e a b = absurd (both_ways _ a refl)

then_low : (a b : Ordering) → is_gt (ordering_then a b) ≡ false → is_gt a ≡ false
then_low Less b h = refl
then_low Equal b h = refl
then_low Greater b h = h

then_rest : (a b : Ordering) → a ≡ Equal → is_gt (ordering_then a b) ≡ false → is_gt b ≡ false
then_rest a b e h = subst (λ o. is_gt (ordering_then o b) ≡ false) e h

-- the element of the slot is among the elements
abbrev pub IsIn : List OpId → Key → Type 0
IsIn fs (Elem e) = Contains fs e
IsIn fs Head = ⊤
IsIn fs (Name n) = ⊤

slot_exact : (fs : List OpId) (k l : Key) → IsIn fs k → IsIn fs l → slot_cmp fs k l ≡ Equal → k ≡ l
slot_exact fs (Name a) (Name b) ik il e = ap Name (exact_bytes a b e)
slot_exact fs (Name a) Head ik il e = cc
slot_exact fs (Name a) (Elem b) ik il e = cc
slot_exact fs Head (Name b) ik il e = cc
slot_exact fs Head Head ik il e = refl
slot_exact fs Head (Elem b) ik il e = cc
slot_exact fs (Elem a) (Name b) ik il e = cc
slot_exact fs (Elem a) Head ik il e = cc
slot_exact fs (Elem a) (Elem b) ik il e = ap Elem (position_exact fs a b ik il (exact_unsigned _ _ e))

abbrev pub row_place : Row → Place
row_place r = (r.obj, slot r, r.id)

pub stands_in-true : (o : ObjId) (k : Key) (i : Row) → stands_in o k i ≡ true → (i.obj ≡ o) × (slot i ≡ k)
stands_in-true o k i t = let b = and_parts (same_object i.obj o) (same_key (slot i) k) t in (same_object-true i.obj o b.0, same_key-true (slot i) k b.1)

module _ (es : ObjId → List OpId) where
  abbrev pub place_less : Row → Row → Ordering
  place_less = on row_place (place_cmp es)

  pub rows_total : IsTotalOrder place_less
  rows_total = on_total row_place (place_total es)

  abbrev pub SlotIn : Row → Type 0
  SlotIn r = IsIn (es r.obj) (slot r)

  -- what stands between two rows of one slot stands there too
  between : (r i z : Row) → SlotIn r → SlotIn i → is_gt (place_less r i) ≡ false → is_gt (place_less i z) ≡ false → z.obj ≡ r.obj → slot z ≡ slot r → (i.obj ≡ r.obj) × (slot i ≡ slot r)
  between r i z sr si lo hi eo es' =
      let low : is_gt (object_cmp r.obj i.obj) ≡ false = then_low (object_cmp r.obj i.obj) _ lo in
      let high : is_gt (object_cmp i.obj r.obj) ≡ false = subst (λ o. is_gt (object_cmp i.obj o) ≡ false) eo (then_low (object_cmp i.obj z.obj) _ hi) in
      let tie : object_cmp r.obj i.obj ≡ Equal = even (object_cmp r.obj i.obj) (object_cmp i.obj r.obj) (object_total.antisymm i.obj r.obj) low high in
      let obj : r.obj ≡ i.obj = object_exact r.obj i.obj tie in
      let slow : is_gt (slot_cmp (es r.obj) (slot r) (slot i)) ≡ false = then_low (slot_cmp (es r.obj) (slot r) (slot i)) _ (then_rest (object_cmp r.obj i.obj) _ tie lo) in
      let tie2 : object_cmp i.obj z.obj ≡ Equal = (λ k. object_cmp (sym obj k) (eo k)) ∙ tied_itself object_total r.obj in
      let shigh : is_gt (slot_cmp (es r.obj) (slot i) (slot r)) ≡ false =
      subst (λ s. is_gt (slot_cmp (es r.obj) (slot i) s) ≡ false) es' (subst (λ o. is_gt (slot_cmp (es o) (slot i) (slot z)) ≡ false) (sym obj) (then_low (slot_cmp (es i.obj) (slot i) (slot z)) _ (then_rest (object_cmp i.obj z.obj) _ tie2 hi))) in
      let back : slot_cmp (es r.obj) (slot i) (slot r) ≡ ordering_reverse (slot_cmp (es r.obj) (slot r) (slot i)) = (slot_total (es r.obj)).antisymm (slot i) (slot r) in
      let stie : slot_cmp (es r.obj) (slot r) (slot i) ≡ Equal = even _ _ back slow shigh in
      (sym obj, sym (slot_exact (es r.obj) (slot r) (slot i) sr (subst (λ o. IsIn (es o) (slot i)) (sym obj) si) stie))

  -- in one slot, the one of the lower counter comes first
  slot_order : (a b : Row) → a.obj ≡ b.obj → slot a ≡ slot b → b.id.counter < a.id.counter → is_gt (place_less a b) ≡ true
  slot_order a b eo es' l =
      let obj : object_cmp a.obj b.obj ≡ Equal = ap (λ o. object_cmp o b.obj) eo ∙ tied_itself object_total b.obj in
      let slots : slot_cmp (es a.obj) (slot a) (slot b) ≡ Equal = ap (λ k. slot_cmp (es a.obj) k (slot b)) es' ∙ tied_itself (slot_total (es a.obj)) (slot b) in
      ap is_gt ((λ k. ordering_then (obj k) (ordering_then (slots k) (id_cmp a.id b.id)))) ∙ higher a.id b.id l

  -- ---- a test that holds of later rows in the slot alone

  abbrev pub Later : Row → (Row → Bool) → List Row → Type 0
  Later r p is = (i : Row) → Contains is i → p i ≡ true → (i.obj ≡ r.obj) × (slot i ≡ slot r) × (r.id.counter < i.id.counter)

  after_slot : (r : Row) (p : Row → Bool) (is : List Row) → SlotIn r → ((i : Row) → Contains is i → SlotIn i) → Later r p is → Rises rows_total (r ∷ is) → filter p is ≡ filter p (ahead r.obj (slot r) is)
  after_slot r p [] sr si later rise = refl
  after_slot r p (i ∷ is) sr si later rise =
      let again : filter p is ≡ filter p (ahead r.obj (slot r) is) = after_slot r p is sr (λ z c. si z (Contains-tail i is z c)) (λ z c. later z (Contains-tail i is z c)) (rise.0.1, rise.1.1) in
      elim (cases_Bool (stands_in r.obj (slot r) i)) [
        | inl t ↦ simp t (elim (cases_Bool (p i)) [ inl e ↦ simp e (ap (λ l. i ∷ l) again) | inr e ↦ simp e again ])
        | inr t ↦ simp t (none t)
      ]
    where
      itself : is_gt (place_less i i) ≡ false
      itself = ap is_gt (tied_itself rows_total i)

      beyond : (z : Row) → Contains (i ∷ is) z → is_gt (place_less i z) ≡ false
      beyond z c = elim (Contains-append_cases (i ∷ []) is z c) [
        | inl h ↦ elim (Contains-push_cases [] i z h) [ inl n ↦ absurd (omega (arith, n.1)) | inr e ↦ subst (λ k. is_gt (place_less i k) ≡ false) e itself ]
        | inr k ↦ All-contains (λ z. is_gt (place_less i z) ≡ false) is z (All-from_recursion (λ z. is_gt (place_less i z) ≡ false) is rise.1.0) k
      ]

      none : stands_in r.obj (slot r) i ≡ false → filter p (i ∷ is) ≡ []
      none t = filter_none p (i ∷ is) (λ z c. false_from_ne_true (p z) (λ e.
          let l = later z c e in
          let b = between r i z sr (si i (Contains-head i is)) rise.0.0 (beyond z c) l.0 l.1 in
          both_ways _ t (and_from (same_object i.obj r.obj) (same_key (slot i) (slot r))
          (subst (λ o. same_object o r.obj ≡ true) (sym b.0) (ap is_eq (tied_itself object_total r.obj))) (subst (λ k. same_key k (slot r) ≡ true) (sym b.1) (same_key_itself (slot r))))))

  rises_after : (before is : List Row) → Rises rows_total (before ++ is) → Rises rows_total is
  rises_after [] is r = r
  rises_after (b ∷ before) is r = rises_after before is r.1

  before_low : (before : List Row) (r : Row) (is : List Row) → Rises rows_total (before ++ r ∷ is) → (b : Row) → Contains before b → is_gt (place_less b r) ≡ false
  before_low [] r is rise b c = absurd (omega (arith, c.1))
  before_low (a ∷ before) r is rise b c = elim (Contains-append_cases (a ∷ []) before b c) [
    | inl h ↦ elim (Contains-push_cases [] a b h) [
      | inl n ↦ absurd (omega (arith, n.1))
      | inr e ↦ subst (λ k. is_gt (place_less k r) ≡ false) e (All-contains (λ z. is_gt (place_less a z) ≡ false) (before ++ r ∷ is) r (All-from_recursion (λ z. is_gt (place_less a z) ≡ false) (before ++ r ∷ is) rise.0) (Contains-append_right before (r ∷ is) r (Contains-head r is)))
    ]
    | inr k ↦ before_low before r is rise.1 b k
  ]

  pub filter_ahead : (p : Row → Bool) (before : List Row) (r : Row) (after : List Row) → Rises rows_total (before ++ r ∷ after) → ((i : Row) → Contains (before ++ r ∷ after) i → SlotIn i) → Later r p (before ++ r ∷ after) → filter p (before ++ r ∷ after) ≡ filter p (ahead r.obj (slot r) after)
  filter_ahead p before r after rise si later =
      let right : (i : Row) → Contains (r ∷ after) i → Contains (before ++ r ∷ after) i = Contains-append_right before (r ∷ after) in
      let none : filter p before ≡ [] = filter_none p before (λ b c. false_from_ne_true (p b) (λ t.
      let l = later b (Contains-append_left before (r ∷ after) b c) t in
      both_ways _ (before_low before r after rise b c) (slot_order b r l.0 l.1 l.2))) in
      let not_self : p r ≡ false = false_from_ne_true (p r) (λ t. let l = later r (right r (Contains-head r after)) t in let k = l.2 in absurd (omega arith)) in
      filter-append p before (r ∷ after) ∙ (λ i. none i ++ filter p (r ∷ after))
      ∙ simp not_self refl
      ∙ after_slot r p after (si r (right r (Contains-head r after))) (λ i c. si i (right i (Contains-tail r after i c))) (λ i c. later i (right i (Contains-tail r after i c))) (rises_after before (r ∷ after) rise)
