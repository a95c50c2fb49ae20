-- Lists without repeats that have the same members are permutations of one another.
use Rattle.std.proofs.Common.{zero, suc, ◌≡◌, ◌<◌, List, [], ◌∷◌, ◌++◌, length, get_or, sym, ap, ◌∙◌, subst, inl, inr, ◌⊎◌, Contains, IsPermutation, remove, ℕ, arith}
use Rattle.std.specs.Bool.{⊤}
use Rattle.std.proofs.lemmas.List.{append-nil, length-append, nil_from_length}
use Rattle.std.proofs.lemmas.List.Sorted.{IsPermutation-refl, IsPermutation-sym, IsPermutation-trans, IsPermutation-cons, IsPermutation-remove, Contains-permutation, length_permutation}
use Rattle.am_types.specs.Members.{Member, DistinctHashes}
use Rattle.am_types.proofs.Lists.{Contains-head, Contains-tail}

module _ {X : Type 0} where
  pub Contains-cons_cases : (y : X) (xs : List X) (x : X) → Contains (y ∷ xs) x → (y ≡ x) ⊎ Contains xs x
  Contains-cons_cases y xs x c = go c.0 c.1 c.2
    where
      go : (k : ℕ) → k < length (y ∷ xs) → get_or (y ∷ xs) k x ≡ x → (y ≡ x) ⊎ Contains xs x
      go zero l e = inl e
      go (suc k) l e = inr (k, omega arith, e)

  abbrev pub NoRepeat : List X → Type 0
  NoRepeat [] = ⊤
  NoRepeat (x ∷ xs) = (Contains xs x → ⊥) × NoRepeat xs

  -- what is left of ys without xs
  pub left_over : (xs ys : List X) → NoRepeat xs → ((x : X) → Contains xs x → Contains ys x) → (rest : List X) × IsPermutation ys (xs ++ rest)
  left_over [] ys nr w = (ys, IsPermutation-refl ys)
  left_over (x ∷ xs) ys nr w =
      let c = w x (Contains-head x xs) in
      let first = IsPermutation-remove ys c.0 x c.1 (sym c.2) in
      let within : (y : X) → Contains xs y → Contains (remove ys c.0) y = λ y cy. elim (Contains-cons_cases x (remove ys c.0) y (Contains-permutation ys (x ∷ remove ys c.0) y first (w y (Contains-tail x xs y cy)))) [ inl e ↦ absurd (nr.0 (subst (Contains xs) (sym e) cy)) | inr d ↦ d ] in
      let again = left_over xs (remove ys c.0) nr.1 within in
      (again.0, IsPermutation-trans ys (x ∷ remove ys c.0) (x ∷ (xs ++ again.0)) first (IsPermutation-cons x (remove ys c.0) (xs ++ again.0) again.1))

  pub same_members : (xs ys : List X) → NoRepeat xs → NoRepeat ys → ((x : X) → Contains xs x → Contains ys x) → ((x : X) → Contains ys x → Contains xs x) → IsPermutation xs ys
  same_members xs ys n m w v =
      let a = left_over xs ys n w in
      let b = left_over ys xs m v in
      let la = length_permutation ys (xs ++ a.0) a.1 in
      let lb = length_permutation xs (ys ++ b.0) b.1 in
      let none : a.0 ≡ [] = nil_from_length a.0 (omega (arith, length-append xs a.0, length-append ys b.0)) in
      IsPermutation-sym ys xs (subst (IsPermutation ys) (ap (λ l. xs ++ l) none ∙ append-nil xs) a.1)

-- members of distinct hashes don't repeat
pub no_repeat : (C : List Member) → DistinctHashes C → NoRepeat C
no_repeat [] d = tt
no_repeat (m ∷ C) d = (
  λ c. d 0 (suc c.0) m (omega arith) (let l = c.1 in omega arith) (ap (λ (n : Member). n.hash) (sym c.2)),
  no_repeat C (λ i j n p q. d (suc i) (suc j) n (omega arith) (omega arith)),
)
