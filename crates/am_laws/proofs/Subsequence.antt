-- The elements after some operations are those after all, without the elements that aren't there.
use Rattle.std.proofs.Common.{◌≡◌, List, [], ◌∷◌, filter, fold, Bool, true, false, refl, sym, ap, ◌∙◌, inl, inr}
use Rattle.std.specs.List.{AllByRecursion}
use Rattle.std.proofs.lemmas.Bool.{cases_Bool}
use Rattle.am_laws.specs.Records.{OpId, ObjId, Key, Name, Head, Elem}
use Rattle.am_types.specs.Same.{same_id}
use Rattle.am_types.specs.Operations.{Operation, ascending}
use Rattle.am_types.specs.Elements.{HasReference, IsAnchored, put_after, put_at, elements, inserts_into}
use Rattle.am_types.proofs.Orders.{same_id-true}
use Rattle.am_types.proofs.Rising.{filter-sorted_by}
use Rattle.am_types.proofs.Permuted.{operation_total}

module _ (q : OpId → Bool) where
  filter-put_after : (r e : OpId) (fs : List OpId) → q r ≡ true → q e ≡ true → filter q (put_after r e fs) ≡ put_after r e (filter q fs)
  filter-put_after r e [] qr qe = refl
  filter-put_after r e (f ∷ fs) qr qe =
      let again = filter-put_after r e fs qr qe in
      elim (cases_Bool (same_id f r)) [
        | inl s ↦ let qf : q f ≡ true = ap q (same_id-true f r s) ∙ qr in simp (s, qf, qe, s) refl
        | inr s ↦ elim (cases_Bool (q f)) [ inl qf ↦ simp (s, qf, again, s) refl | inr qf ↦ simp (s, qf, again) refl ]
      ]

  filter-put_at : (k : Key) (e : OpId) (fs : List OpId) → HasReference q k → q e ≡ true → filter q (put_at k e fs) ≡ put_at k e (filter q fs)
  filter-put_at Head e fs has qe = simp qe refl
  filter-put_at (Elem r) e fs has qe = filter-put_after r e fs has qe
  filter-put_at (Name n) e fs has qe = refl

  skip-put_after : (r e : OpId) (fs : List OpId) → q e ≡ false → filter q (put_after r e fs) ≡ filter q fs
  skip-put_after r e [] qe = refl
  skip-put_after r e (f ∷ fs) qe =
      let again = skip-put_after r e fs qe in
      elim (cases_Bool (same_id f r)) [
        | inl s ↦ simp (s, qe) refl
        | inr s ↦ simp (s, again) refl
      ]

  skip-put_at : (k : Key) (e : OpId) (fs : List OpId) → q e ≡ false → filter q (put_at k e fs) ≡ filter q fs
  skip-put_at Head e fs qe = simp qe refl
  skip-put_at (Elem r) e fs qe = skip-put_after r e fs qe
  skip-put_at (Name n) e fs qe = refl

  abbrev put : List OpId → Operation → List OpId
  put fs x = put_at x.op.key x.id fs

  filter-fold : (xs : List Operation) (fs : List OpId) → AllByRecursion (IsAnchored q) xs → fold put (filter q fs) (filter (λ x. q x.id) xs) ≡ filter q (fold put fs xs)
  filter-fold [] fs all = refl
  filter-fold (x ∷ xs) fs all =
      let again = filter-fold xs (put_at x.op.key x.id fs) all.1 in
      elim (cases_Bool (q x.id)) [
        | inl e ↦ simp e (ap (λ l. fold put l (filter (λ x. q x.id) xs)) (sym (filter-put_at x.op.key x.id fs (all.0 e) e)) ∙ again)
        | inr e ↦ simp e (ap (λ l. fold put l (filter (λ x. q x.id) xs)) (sym (skip-put_at x.op.key x.id fs e)) ∙ again)
      ]

filter_comm : {X : Type 0} (p r : X → Bool) (xs : List X) → filter p (filter r xs) ≡ filter r (filter p xs)
filter_comm p r [] = refl
filter_comm p r (x ∷ xs) =
    let again = filter_comm p r xs in
    elim (cases_Bool (p x)) [
      | inl px ↦ elim (cases_Bool (r x)) [ inl rx ↦ simp (rx, px, again, rx) refl | inr rx ↦ simp (rx, px, again, rx) refl ]
      | inr px ↦ elim (cases_Bool (r x)) [ inl rx ↦ simp (rx, px, again) refl | inr rx ↦ simp (rx, px, again) refl ]
    ]

-- of the elements, those that are there, in the same order
pub elements-filter : (q : OpId → Bool) (A : List Operation) (o : ObjId) → AllByRecursion (IsAnchored q) (filter (inserts_into o) (ascending A)) → elements (filter (λ x. q x.id) A) o ≡ filter q (elements A o)
unfolding elements
elements-filter q A o all =
    ap (λ l. fold (put q) [] (filter (inserts_into o) l)) (sym (filter-sorted_by operation_total (λ x. q x.id) A))
    ∙ ap (fold (put q) []) (filter_comm (inserts_into o) (λ x. q x.id) (ascending A))
    ∙ filter-fold q (filter (inserts_into o) (ascending A)) [] all
