-- Permutations of lists of parts, and of filters.
use Rattle.std.proofs.Common.{ℕ, zero, suc, get_or, set, swap, ◌<◌, List, [], ◌∷◌, ◌++◌, length, filter, Bool, cond, refl, ap, inl, inr, ◌≡◌, subst, IsPermutation, arith}
use Rattle.std.specs.List.{flat_map}
use Rattle.std.proofs.lemmas.Bool.{cases_Bool}
use Rattle.std.proofs.lemmas.List.{append_assoc}
use Rattle.std.proofs.lemmas.List.Sorted.{IsPermutation-keeps, IsPermutation-refl, IsPermutation-trans, IsPermutation-append_left, IsPermutation-append_right, IsPermutation-append_comm}

module _ {X Y : Type 0} (f : X → List Y) where
  exchanged : (a b c : List Y) → IsPermutation (a ++ (b ++ c)) (b ++ (a ++ c))
  exchanged a b c =
      subst (λ l. IsPermutation (a ++ (b ++ c)) l) (append_assoc b a c)
      (subst (λ l. IsPermutation l ((b ++ a) ++ c)) (append_assoc a b c) (IsPermutation-append_left c (a ++ b) (b ++ a) (IsPermutation-append_comm a b)))

  put_for : (l : List X) (j : ℕ) (x d : X) → j < length l → IsPermutation (f x ++ flat_map f l) (f (get_or l j d) ++ flat_map f (set l j x))
  put_for [] j x d h = absurd (omega arith)
  put_for (y ∷ l) zero x d h = exchanged (f x) (f y) (flat_map f l)
  put_for (y ∷ l) (suc j) x d h =
      let below : j < length l = omega arith in
      IsPermutation-trans _ (f y ++ (f x ++ flat_map f l)) _ (exchanged (f x) (f y) (flat_map f l))
      (IsPermutation-trans _ (f y ++ (f (get_or l j d) ++ flat_map f (set l j x))) _
      (IsPermutation-append_right (f y) _ _ (put_for l j x d below))
      (exchanged (f y) (f (get_or l j d)) (flat_map f (set l j x))))

  swapped_by : (l : List X) (i j : ℕ) (d : X) → i < length l → j < length l → IsPermutation (flat_map f l) (flat_map f (set (set l i (get_or l j d)) j (get_or l i d)))
  swapped_by [] i j d hi hj = absurd (omega arith)
  swapped_by (x ∷ l) zero zero d hi hj = IsPermutation-refl _
  swapped_by (x ∷ l) zero (suc j) d hi hj = put_for l j x d (omega arith)
  swapped_by (x ∷ l) (suc i) zero d hi hj = put_for l i x d (omega arith)
  swapped_by (x ∷ l) (suc i) (suc j) d hi hj = IsPermutation-append_right (f x) _ _ (swapped_by l i j d (omega arith) (omega arith))

  swapped : (l : List X) (i j : ℕ) → i < length l → j < length l → IsPermutation (flat_map f l) (flat_map f (swap l i j))
  swapped [] i j hi hj = absurd (omega arith)
  swapped (x ∷ l) i j hi hj = swapped_by (x ∷ l) i j x hi hj

  pub IsPermutation-flat_map : (xs ys : List X) → IsPermutation xs ys → IsPermutation (flat_map f xs) (flat_map f ys)
  IsPermutation-flat_map xs ys p =
      IsPermutation-keeps xs (λ l. IsPermutation (flat_map f xs) (flat_map f l)) (IsPermutation-refl _)
      (λ l i j hi hj k. IsPermutation-trans _ (flat_map f l) _ k (swapped l i j hi hj)) ys p

module _ {X : Type 0} (p : X → Bool) where
  one_or_none : X → List X
  one_or_none x = cond (p x) (x ∷ []) []

  filter_is : (xs : List X) → flat_map one_or_none xs ≡ filter p xs
  unfolding one_or_none
  filter_is [] = refl
  filter_is (x ∷ xs) =
      let again = filter_is xs in
      elim (cases_Bool (p x)) [ inl e ↦ simp e (ap (λ l. x ∷ l) again) | inr e ↦ simp e again ]

  pub IsPermutation-filter : (xs ys : List X) → IsPermutation xs ys → IsPermutation (filter p xs) (filter p ys)
  IsPermutation-filter xs ys h = subst (λ l. IsPermutation l (filter p ys)) (filter_is xs) (subst (IsPermutation (flat_map one_or_none xs)) (filter_is ys) (IsPermutation-flat_map one_or_none xs ys h))
