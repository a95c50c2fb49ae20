-- The order of places is total, and the same for a part of the elements.
use Rattle.std.proofs.Common.{ℕ, ◌≡◌, ◌<◌, ◌+◌, List, [], ◌∷◌, filter, Bool, true, refl, sym, ap, ◌∙◌, inl, inr, arith}
use Rattle.std.specs.List.{position_or_len}
use Rattle.std.specs.Cmp.{IsTotalOrder}
use Rattle.std.specs.Ordering.{nat_cmp, ordering_then, then_cmp, on}
use Rattle.std.specs.declared.cmp.Ordering.{Ordering}
use Rattle.std.specs.declared.cmp.Ordering.TheVariants.{Less, Equal, Greater}
use Rattle.std.proofs.lemmas.Bool.{cases_Bool, cases_order, lt-ltb, le-ltb, eq-eqb, ne_eqb}
use Rattle.std.proofs.lemmas.Cmp.{nat_cmp_total, nat_list_cmp_total, nat_list_eq_equiv, on_total, then_total}
use Rattle.am_types.specs.declared.OpId.{OpId}
use Rattle.am_types.specs.declared.ObjId.{ObjId}
use Rattle.am_types.specs.declared.Key.{Key}
use Rattle.am_types.specs.declared.Key.TheVariants.{Name, Head, Elem}
use Rattle.am_types.specs.Order.{bytes_cmp, id_cmp, object_cmp}
use Rattle.am_types.specs.Same.{same_id, same_key}
use Rattle.am_types.specs.Places.{Place, slot_cmp, place_cmp}
use Rattle.am_types.proofs.Orders.{id_total, same_id-true, same_id_itself}
use Rattle.am_types.specs.Elements.{HasReference}
use Rattle.am_places.proofs.PlaceOrder.{total_same, then_equal, object_total, object_exact}

-- ---- numbers

pub cmp_less : (a b : ℕ) → a < b → nat_cmp a b ≡ Less
cmp_less a b l = rw (lt-ltb a b l) refl

cmp_equal : (a b : ℕ) → a ≡ b → nat_cmp a b ≡ Equal
cmp_equal a b e = rw (le-ltb a b (omega arith), eq-eqb a b e) refl

cmp_greater : (a b : ℕ) → b < a → nat_cmp a b ≡ Greater
cmp_greater a b l = rw (le-ltb a b (omega arith), ne_eqb a b (λ e. omega arith)) refl

pub cmp_suc : (a b : ℕ) → nat_cmp (1 + a) (1 + b) ≡ nat_cmp a b
cmp_suc a b = elim (cases_order a b) [
  | inl e ↦ cmp_equal (1 + a) (1 + b) (omega arith) ∙ sym (cmp_equal a b e)
  | inr r ↦ elim r [
    | inl l ↦ cmp_less (1 + a) (1 + b) (omega arith) ∙ sym (cmp_less a b l)
    | inr l ↦ cmp_greater (1 + a) (1 + b) (omega arith) ∙ sym (cmp_greater a b l)
  ]
]

-- ---- totality

abbrev SlotRank : Type 0
SlotRank = ℕ × List ℕ × ℕ

abbrev slot_rank : List OpId → Key → SlotRank
slot_rank es (Name n) = (0, n, 0)
slot_rank es Head = (1, [], 0)
slot_rank es (Elem e) = (2, [], position_or_len (same_id e) es)

abbrev slot_rank_cmp : SlotRank → SlotRank → Ordering
slot_rank_cmp = then_cmp (on (λ r. r.0) nat_cmp) (then_cmp (on (λ r. r.1) bytes_cmp) (on (λ r. r.2) nat_cmp))

slot_rank_total : IsTotalOrder slot_rank_cmp
slot_rank_total = then_total (on_total (λ r. r.0) nat_cmp_total) (then_total (on_total (λ r. r.1) nat_list_cmp_total) (on_total (λ r. r.2) nat_cmp_total))

slot_ranked : (es : List OpId) (k l : Key) → slot_rank_cmp (slot_rank es k) (slot_rank es l) ≡ slot_cmp es k l
slot_ranked es (Name a) (Name b) = then_equal (bytes_cmp a b)
slot_ranked es (Name a) Head = refl
slot_ranked es (Name a) (Elem b) = refl
slot_ranked es Head (Name b) = refl
slot_ranked es Head Head = refl
slot_ranked es Head (Elem b) = refl
slot_ranked es (Elem a) (Name b) = refl
slot_ranked es (Elem a) Head = refl
slot_ranked es (Elem a) (Elem b) = refl

pub slot_total : (es : List OpId) → IsTotalOrder (slot_cmp es)
slot_total es = total_same (on (slot_rank es) slot_rank_cmp) (slot_cmp es) (slot_ranked es) (on_total (slot_rank es) slot_rank_total)

pub same_key_itself : (k : Key) → same_key k k ≡ true
same_key_itself (Name n) = nat_list_eq_equiv.refl n
same_key_itself Head = refl
same_key_itself (Elem e) = same_id_itself e

abbrev PlaceRank : Type 0
PlaceRank = ObjId × SlotRank × OpId

abbrev place_rank : (ObjId → List OpId) → Place → PlaceRank
place_rank es p = (p.0, slot_rank (es p.0) p.1, p.2)

abbrev place_rank_cmp : PlaceRank → PlaceRank → Ordering
place_rank_cmp = then_cmp (on (λ r. r.0) object_cmp) (then_cmp (on (λ r. r.1) slot_rank_cmp) (on (λ r. r.2) id_cmp))

place_ranked : (es : ObjId → List OpId) (p q : Place) → on (place_rank es) place_rank_cmp p q ≡ place_cmp es p q
place_ranked es p q = go (object_cmp p.0 q.0) refl
  where
    go : (r : Ordering) → object_cmp p.0 q.0 ≡ r → on (place_rank es) place_rank_cmp p q ≡ place_cmp es p q
    go Less e = rw e refl
    go Greater e = rw e refl
    go Equal e =
        ap (λ r. ordering_then (object_cmp p.0 q.0) (ordering_then r (id_cmp p.2 q.2)))
        (ap (λ o. slot_rank_cmp (slot_rank (es p.0) p.1) (slot_rank (es o) q.1)) (sym (object_exact p.0 q.0 e)) ∙ slot_ranked (es p.0) p.1 q.1)

pub place_total : (es : ObjId → List OpId) → IsTotalOrder (place_cmp es)
place_total es = total_same _ (place_cmp es) (place_ranked es) (on_total (place_rank es) (then_total (on_total (λ r. r.0) object_total) (then_total (on_total (λ r. r.1) slot_rank_total) (on_total (λ r. r.2) id_total))))

-- ---- a part of the elements

module _ (q : OpId → Bool) where
  position_agree : (e f : OpId) → q e ≡ true → q f ≡ true → (es : List OpId) →
      nat_cmp (position_or_len (same_id e) (filter q es)) (position_or_len (same_id f) (filter q es)) ≡ nat_cmp (position_or_len (same_id e) es) (position_or_len (same_id f) es)
  position_agree e f qe qf [] = refl
  position_agree e f qe qf (g ∷ es) =
      let again : nat_cmp (position_or_len (same_id e) (filter q es)) (position_or_len (same_id f) (filter q es)) ≡ nat_cmp (position_or_len (same_id e) es) (position_or_len (same_id f) es) = position_agree e f qe qf es in
      elim (cases_Bool (same_id e g)) [
        | inl se ↦ let qg : q g ≡ true = ap q (sym (same_id-true e g se)) ∙ qe in
            elim (cases_Bool (same_id f g)) [
              | inl sf ↦ simp (qg, se, sf) refl
              | inr sf ↦ simp (qg, se, sf) (cmp_less 0 (1 + position_or_len (same_id f) (filter q es)) (omega arith) ∙ sym (cmp_less 0 (1 + position_or_len (same_id f) es) (omega arith)))
            ]
        | inr se ↦ elim (cases_Bool (same_id f g)) [
          | inl sf ↦ let qg : q g ≡ true = ap q (sym (same_id-true f g sf)) ∙ qf in
              simp (qg, se, sf) (cmp_greater (1 + position_or_len (same_id e) (filter q es)) 0 (omega arith) ∙ sym (cmp_greater (1 + position_or_len (same_id e) es) 0 (omega arith)))
          | inr sf ↦ elim (cases_Bool (q g)) [
            | inl qg ↦ simp (qg, se, sf) (cmp_suc (position_or_len (same_id e) (filter q es)) (position_or_len (same_id f) (filter q es)) ∙ again ∙ sym (cmp_suc (position_or_len (same_id e) es) (position_or_len (same_id f) es)))
            | inr qg ↦ simp (qg, se, sf) (again ∙ sym (cmp_suc (position_or_len (same_id e) es) (position_or_len (same_id f) es)))
          ]
        ]
      ]

  slot_agree : (es : List OpId) (k l : Key) → HasReference q k → HasReference q l → slot_cmp (filter q es) k l ≡ slot_cmp es k l
  slot_agree es (Name a) (Name b) hk hl = refl
  slot_agree es (Name a) Head hk hl = refl
  slot_agree es (Name a) (Elem b) hk hl = refl
  slot_agree es Head (Name b) hk hl = refl
  slot_agree es Head Head hk hl = refl
  slot_agree es Head (Elem b) hk hl = refl
  slot_agree es (Elem a) (Name b) hk hl = refl
  slot_agree es (Elem a) Head hk hl = refl
  slot_agree es (Elem a) (Elem b) hk hl = position_agree a b hk hl es

  -- where the elements of the slots are there, the others don't matter
  pub place_agree : (es : ObjId → List OpId) (p r : Place) → HasReference q p.1 → HasReference q r.1 → place_cmp (λ o. filter q (es o)) p r ≡ place_cmp es p r
  place_agree es p r hp hr = ap (λ s. ordering_then (object_cmp p.0 r.0) (ordering_then s (id_cmp p.2 r.2))) (slot_agree (es p.0) p.1 r.1 hp hr)
