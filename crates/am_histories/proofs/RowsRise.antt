-- Rows that may come where they stand, with their elements in order, rise by their places.
use Rattle.std.proofs.Common.{◌≡◌, ◌<◌, List, [], ◌∷◌, ◌++◌, true, false, refl, sym, ap, ◌∙◌, subst, inl, inr, Contains}
use Rattle.std.specs.Ordering.{is_gt, is_lt, ordering_then}
use Rattle.std.specs.declared.cmp.Ordering.{Ordering}
use Rattle.std.specs.declared.cmp.Ordering.TheVariants.{Less, Equal, Greater}
use Rattle.std.proofs.lemmas.Bool.{cases_Bool, both_ways, and_parts}
use Rattle.std.proofs.lemmas.Cmp.{tied_itself}
use Rattle.std.proofs.lemmas.List.{append_assoc}
use Rattle.std.proofs.lemmas.List.Elements.{Contains-append_left, Contains-push}
use Rattle.am_types.specs.declared.OpId.{OpId}
use Rattle.am_types.specs.declared.ObjId.{ObjId}
use Rattle.am_types.specs.declared.Key.{Key}
use Rattle.am_types.specs.declared.Key.TheVariants.{Name, Head, Elem}
use Rattle.am_types.specs.declared.Row.{Row}
use Rattle.am_types.specs.Order.{bytes_cmp, id_cmp, object_cmp}
use Rattle.am_types.specs.Same.{same_key}
use Rattle.am_types.specs.Places.{slot_cmp}
use Rattle.am_types.proofs.Rising.{Rises}
use Rattle.am_laws.proofs.SameMembers.{NoRepeat}
use Rattle.am_histories.specs.Rebuilt.{slot_of}
use Rattle.am_histories.specs.RowOrder.{row_insertions, may_open, slot_may_come, by_object, may_come_in, come_behind, rows_come, RowsInOrder}
use Rattle.am_histories.proofs.PlaceOrder.{object_exact, slot_total}
use Rattle.am_histories.proofs.Positions.{place_of, ahead, none_before, less_is}
use Rattle.am_histories.proofs.Tests.{same_key-true}
use Rattle.am_histories.proofs.KnownRows.{ids_of, Known, row_cmp, row_total, opens_element, insertions-in, insertions-split, Adjacent, rises_from_adjacent}

lt_is : (o : Ordering) → is_lt o ≡ true → o ≡ Less
lt_is Less e = refl
lt_is Equal e = absurd (both_ways false refl e)
lt_is Greater e = absurd (both_ways false refl e)

-- the element whose slot x is in, where it is one, was inserted among B
abbrev Seen : List Row → Row → Type 0
Seen B x = (e : OpId) → slot_of x ≡ Elem e → (y : Row) × Contains B y × (y.insert ≡ true) × (y.obj ≡ x.obj) × (y.id ≡ e)

opens_itself : (B : List Row) (x : Row) → may_open x ≡ true → Contains B x → Seen B x
opens_itself B x m c e s = let o = opens_element x e m s in (x, c, o.0, refl, o.1)

module _ (es : ObjId → List OpId) (t : List Row) (k : Known es t) (order : (o : ObjId) → ids_of (row_insertions o t) ≡ es o) where
  place_is : (x y : Row) (o s i : Ordering) → object_cmp x.obj y.obj ≡ o → slot_cmp (es x.obj) (slot_of x) (slot_of y) ≡ s → id_cmp x.id y.id ≡ i → row_cmp es x y ≡ ordering_then o (ordering_then s i)
  place_is x y o s i p q r = λ j. ordering_then (p j) (ordering_then (q j) (r j))

  module _ (B : List Row) (last : Row) (rest : List Row) (r : Row) (w : t ≡ B ++ r ∷ rest) (c : Contains B last) (seen : Seen B last) where
    -- an element that is new comes behind those before it
    new_element : (a : OpId) → slot_of last ≡ Elem a → r.insert ≡ true → last.obj ≡ r.obj → place_of (es last.obj) a < place_of (es last.obj) r.id
    new_element a s i e =
        let o : ObjId = last.obj in
        let y = seen a s in
        let before : List OpId = ids_of (row_insertions o B) in
        let after : List OpId = ids_of (row_insertions o rest) in
        let whole : es o ≡ before ++ r.id ∷ after = sym (order o) ∙ ap (λ l. ids_of (row_insertions o l)) w ∙ insertions-split o B rest r i (sym e) in
        let there : Contains before a = subst (Contains before) y.4 (insertions-in o B y.0 y.1 y.2 y.3) in
        subst (λ l. place_of l a < place_of l r.id) (sym whole) (ahead before after a r.id there (none_before before after r.id (subst NoRepeat whole (k.once o))))

    slots_rise : (a b : Key) → slot_of last ≡ a → slot_of r ≡ b → last.obj ≡ r.obj → slot_may_come a b ≡ true → may_open r ≡ true → slot_cmp (es last.obj) a b ≡ Less
    slots_rise (Name x) (Name y) p q e m n = lt_is (bytes_cmp x y) m
    slots_rise (Name x) Head p q e m n = absurd (both_ways false refl m)
    slots_rise (Name x) (Elem y) p q e m n = refl
    slots_rise Head (Name y) p q e m n = absurd (both_ways false refl m)
    slots_rise Head Head p q e m n = absurd (both_ways false refl m)
    slots_rise Head (Elem y) p q e m n = absurd (both_ways false refl m)
    slots_rise (Elem x) (Name y) p q e m n = absurd (both_ways false refl m)
    slots_rise (Elem x) Head p q e m n = absurd (both_ways false refl m)
    slots_rise (Elem x) (Elem y) p q e m n =
        let o = opens_element r y n q in
        less_is (place_of (es last.obj) x) (place_of (es last.obj) y) (subst (λ i. place_of (es last.obj) x < place_of (es last.obj) i) o.1 (new_element x p o.0 e))

    Comes : Type 0
    Comes = (is_gt (row_cmp es last r) ≡ false) × Seen (B ++ r ∷ []) r

    comes_in : last.obj ≡ r.obj → object_cmp last.obj r.obj ≡ Equal → may_come_in last r ≡ true → Comes
    unfolding Comes
    comes_in e objects m = elim (cases_Bool (same_key (slot_of last) (slot_of r))) [
      | inl s ↦
          let slots : slot_of last ≡ slot_of r = same_key-true (slot_of last) (slot_of r) s in
          let tied : slot_cmp (es last.obj) (slot_of last) (slot_of r) ≡ Equal = ap (slot_cmp (es last.obj) (slot_of last)) (sym slots) ∙ tied_itself (slot_total (es last.obj)) (slot_of last) in
          let less : id_cmp last.id r.id ≡ Less = lt_is _ (simp s at m) in (
            ap is_gt (place_is last r Equal Equal Less objects tied less),
            λ f q. let y = seen f (slots ∙ q) in (y.0, Contains-append_left B (r ∷ []) y.0 y.1, y.2, y.3 ∙ e, y.4),
          )
      | inr s ↦
          let parts = and_parts (slot_may_come (slot_of last) (slot_of r)) (may_open r) (simp s at m) in
          let less = slots_rise (slot_of last) (slot_of r) refl refl e parts.0 parts.1 in
          (ap is_gt (place_is last r Equal Less (id_cmp last.id r.id) objects less refl), opens_itself (B ++ r ∷ []) r parts.1 (Contains-push B r))
    ]

    comes : (o : Ordering) → object_cmp last.obj r.obj ≡ o → by_object o last r ≡ true → Comes
    unfolding Comes
    comes Less p m = (
      ap is_gt (place_is last r Less (slot_cmp (es last.obj) (slot_of last) (slot_of r)) (id_cmp last.id r.id) p refl refl),
      opens_itself (B ++ r ∷ []) r m (Contains-push B r),
    )
    comes Equal p m = comes_in (object_exact last.obj r.obj p) p m
    comes Greater p m = absurd (both_ways false refl m)

    pub comes_next : by_object (object_cmp last.obj r.obj) last r ≡ true → (is_gt (row_cmp es last r) ≡ false) × Seen (B ++ r ∷ []) r
    unfolding Comes
    comes_next m = comes (object_cmp last.obj r.obj) refl m

  adjacent : (B : List Row) (last : Row) (rest : List Row) → t ≡ B ++ last ∷ rest → Seen (B ++ last ∷ []) last → come_behind last rest ≡ true → Adjacent (row_total es) last rest
  adjacent B last [] w seen m = tt
  adjacent B last (r ∷ rest) w seen m =
      let parts = and_parts (by_object (object_cmp last.obj r.obj) last r) (come_behind r rest) m in
      let next : t ≡ (B ++ last ∷ []) ++ r ∷ rest = w ∙ sym (append_assoc B (last ∷ []) (r ∷ rest)) in
      let n = comes_next (B ++ last ∷ []) last rest r next (Contains-push B last) seen parts.0 in
      (n.0, adjacent (B ++ last ∷ []) r rest next n.1 parts.1)

rising_tests : (es : ObjId → List OpId) (t : List Row) (k : Known es t) → ((o : ObjId) → ids_of (row_insertions o t) ≡ es o) → rows_come t ≡ true → Rises (row_total es) t
rising_tests es [] k order m = tt
rising_tests es (r ∷ rest) k order m =
    let parts = and_parts (may_open r) (come_behind r rest) m in
    rises_from_adjacent (row_total es) r rest (adjacent es (r ∷ rest) k order [] r rest refl (opens_itself (r ∷ []) r parts.0 (Contains-push [] r)) parts.1)

-- rows in order rise
pub rises_in_order : (es : ObjId → List OpId) (t : List Row) → Known es t → RowsInOrder t → Rises (row_total es) t
rises_in_order es t k h = rising_tests es t k (λ o. (k.told o).0 (h.walks o)) h.come
