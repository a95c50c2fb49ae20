-- Lists of ids in which each stands at most once.
use Rattle.std.proofs.Common.{ℕ, zero, suc, ◌≡◌, ◌≢◌, ◌≤◌, List, [], ◌∷◌, ◌++◌, length, filter, map, refl, sym, ap, ◌∙◌, subst, inl, inr, Contains, IsPermutation, arith}
use Rattle.std.proofs.lemmas.Bool.{cases_Bool}
use Rattle.std.proofs.lemmas.List.Sorted.{length_permutation}
use Rattle.am_types.specs.declared.OpId.{OpId}
use Rattle.am_types.specs.Same.{same_id}
use Rattle.am_types.specs.Operations.{Operation, DistinctIds}
use Rattle.am_types.proofs.Orders.{same_id-true, same_id_itself}
use Rattle.am_laws.proofs.Ancestry.{Contains-filter}
use Rattle.am_types.proofs.Lists.{Contains-head, Contains-tail}
use Rattle.am_types.proofs.Permutations.{IsPermutation-filter}

-- how often e stands there
abbrev pub times : OpId → List OpId → ℕ
times e es = length (filter (same_id e) es)

pub record Once (es : List OpId) : Type 0 where
  pub most : (e : OpId) → times e es ≤ 1

pub once-permutation : (es fs : List OpId) → IsPermutation es fs → Once es → Once fs
once-permutation es fs p once = record {
  most = λ e. let l = length_permutation (filter (same_id e) es) (filter (same_id e) fs) (IsPermutation-filter (same_id e) es fs p) in let m = once.most e in omega arith;
}

some_times : (e : OpId) (es : List OpId) → Contains es e → 1 ≤ times e es
some_times e es c = let d = Contains-filter (same_id e) es e c (same_id_itself e) in let l = d.1 in omega arith

-- the first doesn't come again
pub first_alone : (e : OpId) (es : List OpId) → Once (e ∷ es) → Contains es e → ⊥
first_alone e es once c =
    let m = once.most e in
    let s = some_times e es c in
    let i = same_id_itself e in
    let two : times e (e ∷ es) ≡ suc (times e es) = simp i refl in
    omega arith

pub once_tail : (e : OpId) (es : List OpId) → Once (e ∷ es) → Once es
once_tail e es once = record {
  most = λ d. let m = once.most d in elim (cases_Bool (same_id d e)) [
    | inl s ↦ let is : times d (e ∷ es) ≡ suc (times d es) = simp s refl in omega arith
    | inr s ↦ let is : times d (e ∷ es) ≡ times d es = simp s refl in omega arith
  ];
}

-- what stands in the one part doesn't stand in the other
pub once_apart : (es fs : List OpId) → Once (es ++ fs) → (e : OpId) → Contains es e → Contains fs e → ⊥
once_apart [] fs once e c d = omega (arith, c.1)
once_apart (f ∷ es) fs once e (zero, l, is) d = let same : f ≡ e = is in first_alone f (es ++ fs) once (subst (Contains (es ++ fs)) (sym same) (right es))
  where
    right : (es : List OpId) → Contains (es ++ fs) e
    right [] = d
    right (g ∷ es) = Contains-tail g (es ++ fs) e (right es)
once_apart (f ∷ es) fs once e (suc k, l, is) d = once_apart es fs (once_tail f (es ++ fs) once) e (k, omega arith, is) d

pub never : (e : OpId) (es : List OpId) → (Contains es e → ⊥) → times e es ≡ 0
never e [] n = refl
never e (f ∷ es) n =
    let again : times e es ≡ 0 = never e es (λ c. n (Contains-tail f es e c)) in
    elim (cases_Bool (same_id e f)) [
      | inl s ↦ absurd (n (subst (Contains (f ∷ es)) (sym (same_id-true e f s)) (Contains-head f es)))
      | inr s ↦ simp (s, again) refl
    ]

pub once_cons : (e : OpId) (es : List OpId) → (Contains es e → ⊥) → Once es → Once (e ∷ es)
once_cons e es n once = record {
  most = λ d. let m = once.most d in elim (cases_Bool (same_id d e)) [
    | inl s ↦ let none : times e es ≡ 0 = never e es n in
        let same : times d es ≡ times e es = ap (λ i. times i es) (same_id-true d e s) in
        let is : times d (e ∷ es) ≡ suc (times d es) = simp s refl in omega arith
    | inr s ↦ let is : times d (e ∷ es) ≡ times d es = simp s refl in omega arith
  ];
}

-- the ids of operations of distinct ids
pub once_distinct : (A : List Operation) → DistinctIds A → Once (map (λ x. x.id) A)
once_distinct [] d = record { most = λ e. omega arith }
once_distinct (x ∷ A) d =
    once_cons x.id (map (λ x. x.id) A)
    (λ c. apart A (λ y cy e. d 0 (suc cy.0) y (omega arith) (let l = cy.1 in omega arith) (e ∙ ap (λ (z : Operation). z.id) (sym cy.2))) c)
    (once_distinct A (λ i j e p q. d (suc i) (suc j) e (omega arith) (omega arith)))
  where
    apart : (A : List Operation) → ((y : Operation) → Contains A y → x.id ≢ y.id) → Contains (map (λ x. x.id) A) x.id → ⊥
    apart [] n c = omega (arith, c.1)
    apart (y ∷ A) n (zero, l, is) = n y (Contains-head y A) (sym is)
    apart (y ∷ A) n (suc k, l, is) = apart A (λ z cz. n z (Contains-tail y A z cz)) (k, omega arith, is)
