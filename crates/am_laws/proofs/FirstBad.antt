-- The first operation with bad references, by its place.
use Rattle.std.proofs.Common.{ℕ, zero, suc, ◌≡◌, ◌+◌, ◌<◌, List, [], ◌∷◌, ◌++◌, take, true, false, not, Option, Some, None, option_map, refl, sym, ap, ◌∙◌, subst, inl, inr, arith}
use Rattle.std.specs.List.{slice_get}
use Rattle.std.specs.Option.{option_map_or}
use Rattle.std.proofs.lemmas.Bool.{cases_Bool, cases_order, both_ways}
use Rattle.std.proofs.lemmas.List.{append_assoc, append-nil}
use Rattle.am_types.specs.Operations.{Operation}
use Rattle.am_types.specs.References.{has_good_references, first_bad}
use Rattle.am_laws.specs.Laws.{bad_at, IsLeastBad, FindsFirstBad}

-- what the answer says
abbrev Tells : List Operation → List Operation → Option ℕ → Type 0
Tells known xs None = (i : ℕ) → bad_at known xs i ≡ false
Tells known xs (Some i) = IsLeastBad known xs i

first_at : (known : List Operation) (x : Operation) (xs : List Operation) → bad_at known (x ∷ xs) 0 ≡ not (has_good_references known x)
first_at known x xs = ap (λ l. not (has_good_references l x)) (append-nil known)

rest_at : (known : List Operation) (x : Operation) (xs : List Operation) (i : ℕ) → bad_at (known ++ x ∷ []) xs i ≡ bad_at known (x ∷ xs) (suc i)
rest_at known x xs i = ap (λ l. option_map_or (λ y. not (has_good_references l y)) (slice_get xs i) false) (append_assoc known (x ∷ []) (take i xs))

-- the first one is good
good_first : (known : List Operation) (x : Operation) (xs : List Operation) → has_good_references known x ≡ true → bad_at known (x ∷ xs) 0 ≡ false
good_first known x xs t = first_at known x xs ∙ ap not t

-- the first one is good, and this is so of the rest
tells_rest : (known : List Operation) (x : Operation) (xs : List Operation) → has_good_references known x ≡ true → (r : Option ℕ) → Tells (known ++ x ∷ []) xs r → Tells known (x ∷ xs) (option_map (λ i. i + 1) r)
tells_rest known x xs t None h = all
  where
    all : (i : ℕ) → bad_at known (x ∷ xs) i ≡ false
    all zero = good_first known x xs t
    all (suc i) = sym (rest_at known x xs i) ∙ h i
tells_rest known x xs t (Some k) h =
    let up : suc k ≡ k + 1 = omega arith in
    subst (IsLeastBad known (x ∷ xs)) up (record { bad = sym (rest_at known x xs k) ∙ h.bad; before = before })
  where
    before : (j : ℕ) → j < suc k → bad_at known (x ∷ xs) j ≡ false
    before zero l = good_first known x xs t
    before (suc j) l = sym (rest_at known x xs j) ∙ h.before j (omega arith)

tells : (known xs : List Operation) → Tells known xs (first_bad known xs)
tells known [] = λ i. refl
tells known (x ∷ xs) =
    let again : Tells (known ++ x ∷ []) xs (first_bad (known ++ x ∷ []) xs) = tells (known ++ x ∷ []) xs in
    elim (cases_Bool (has_good_references known x)) [
      | inl t ↦ simp t (tells_rest known x xs t (first_bad (known ++ x ∷ []) xs) again)
      | inr f ↦ simp f (record { bad = first_at known x xs ∙ ap not f; before = λ j l. absurd (omega arith) })
    ]

told : (known xs : List Operation) (r : Option ℕ) → first_bad known xs ≡ r → Tells known xs r
told known xs r e = subst (Tells known xs) e (tells known xs)

-- there is one least place at most
found : (known xs : List Operation) (i : ℕ) → IsLeastBad known xs i → first_bad known xs ≡ Some i
found known xs i is = go (first_bad known xs) refl
  where
    go : (r : Option ℕ) → first_bad known xs ≡ r → first_bad known xs ≡ Some i
    go None e = absurd (both_ways (bad_at known xs i) (told known xs None e i) is.bad)
    go (Some k) e =
        let other : IsLeastBad known xs k = told known xs (Some k) e in
        elim (cases_order k i) [
          | inl s ↦ e ∙ ap Some s
          | inr r ↦ elim r [
            | inl l ↦ absurd (both_ways (bad_at known xs k) (is.before k l) other.bad)
            | inr l ↦ absurd (both_ways (bad_at known xs i) (other.before i l) is.bad)
          ]
        ]

not_found : (known xs : List Operation) → ((i : ℕ) → bad_at known xs i ≡ false) → first_bad known xs ≡ None
not_found known xs h = go (first_bad known xs) refl
  where
    go : (r : Option ℕ) → first_bad known xs ≡ r → first_bad known xs ≡ None
    go None e = e
    go (Some k) e = let is : IsLeastBad known xs k = told known xs (Some k) e in absurd (both_ways (bad_at known xs k) (h k) is.bad)

pub finds_first_bad : (known xs : List Operation) → FindsFirstBad known xs
finds_first_bad known xs = record {
  some = λ i. (told known xs (Some i), found known xs i);
  none = (told known xs None, not_found known xs);
}
