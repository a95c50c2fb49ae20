-- Lists that ascend strictly: one is told by its members, and what is sorted and rid of repeats is one.
use Rattle.std.proofs.Common.{ℕ, ◌≡◌, List, [], ◌∷◌, false, refl, sym, ap, ◌∙◌, inl, inr, subst, Contains, arith}
use Rattle.std.specs.Bool.{⊤}
use Rattle.std.specs.Cmp.{IsTotalOrder}
use Rattle.std.specs.List.{AllByRecursion, dedup, dedup_from}
use Rattle.std.specs.Ordering.{is_gt, ordering_reverse}
use Rattle.std.specs.declared.cmp.Ordering.{Ordering}
use Rattle.std.specs.declared.cmp.Ordering.TheVariants.{Less, Equal, Greater}
use Rattle.std.proofs.lemmas.Bool.{cases_Bool, both_ways}
use Rattle.std.proofs.lemmas.Cmp.{nat_list_cmp_total, nat_list_eq_equiv, tied_itself}
use Rattle.std.proofs.lemmas.List.Elements.{All-contains, All-from_recursion, recursion_from_All}
use Rattle.std.proofs.lemmas.List.Kept.{Contains-dedup, Contains-from_dedup}
use Rattle.std.proofs.lemmas.List.Sorted.{IsPermutation-sym, Contains-permutation}
use Rattle.std.proofs.lemmas.Map.Lookups.{exact_bytes}
use Rattle.am_types.specs.Order.{bytes_cmp, sorted_by}
use Rattle.am_types.specs.Same.{same_bytes}
use Rattle.am_types.proofs.Lists.{all_of, Contains-head, Contains-tail}
use Rattle.am_types.proofs.Orders.{same_bytes-true}
use Rattle.am_types.proofs.Rising.{AboveNone, Rises, Rises-sorted_by}
use Rattle.am_types.proofs.Sorting.{IsPermutation-sorted_by}
use Rattle.am_laws.proofs.SameMembers.{Contains-cons_cases}

module _ {X : Type 0} {R : X → X → Ordering} (total : IsTotalOrder R) where
  -- each is below all later ones
  abbrev pub Climbs : List X → Type 0
  Climbs [] = ⊤
  Climbs (x ∷ xs) = AllByRecursion (λ y. R x y ≡ Less) xs × Climbs xs

  below : (x : X) (ys : List X) (y : X) → AllByRecursion (λ y. R x y ≡ Less) ys → Contains ys y → R x y ≡ Less
  below x ys y all c = All-contains (λ y. R x y ≡ Less) ys y (All-from_recursion (λ y. R x y ≡ Less) ys all) c

  not_both : (x y : X) → R x y ≡ Less → R y x ≡ Less → ⊥
  not_both x y a b = let c : R y x ≡ Greater = total.antisymm y x ∙ ap ordering_reverse a in cc

  not_itself : (x : X) → R x x ≡ Less → ⊥
  not_itself x a = let b = tied_itself total x in cc

  pub climbs_same : (xs ys : List X) → Climbs xs → Climbs ys → ((a : X) → Contains xs a → Contains ys a) → ((a : X) → Contains ys a → Contains xs a) → xs ≡ ys
  climbs_same [] [] c d f g = refl
  climbs_same [] (y ∷ ys) c d f g = let h = g y (Contains-head y ys) in absurd (omega (arith, h.1))
  climbs_same (x ∷ xs) [] c d f g = let h = f x (Contains-head x xs) in absurd (omega (arith, h.1))
  climbs_same (x ∷ xs) (y ∷ ys) c d f g =
      let again : ((a : X) → Contains xs a → Contains ys a) → ((a : X) → Contains ys a → Contains xs a) → xs ≡ ys = climbs_same xs ys c.1 d.1 in
      let first : x ≡ y = elim (Contains-cons_cases y ys x (f x (Contains-head x xs))) [
        | inl e ↦ sym e
        | inr in_ys ↦ elim (Contains-cons_cases x xs y (g y (Contains-head y ys))) [
          | inl e ↦ e
          | inr in_xs ↦ absurd (not_both x y (below x xs y c.0 in_xs) (below y ys x d.0 in_ys))
        ]
      ] in
      let rest : xs ≡ ys = again
      (λ a i. elim (Contains-cons_cases y ys a (f a (Contains-tail x xs a i))) [
        | inl e ↦ absurd (not_itself x (subst (λ z. R x z ≡ Less) (sym (first ∙ e)) (below x xs a c.0 i)))
        | inr j ↦ j
      ])
      (λ a i. elim (Contains-cons_cases x xs a (g a (Contains-tail y ys a i))) [
        | inl e ↦ absurd (not_itself y (subst (λ z. R y z ≡ Less) (sym e ∙ first) (below y ys a d.0 i)))
        | inr j ↦ j
      ]) in
      λ i. first i ∷ rest i

-- ---- what is sorted and rid of repeats

-- k is below what stands behind another
less_than : (k x y : List ℕ) → same_bytes x k ≡ false → is_gt (bytes_cmp k x) ≡ false → is_gt (bytes_cmp k y) ≡ false → is_gt (bytes_cmp x y) ≡ false → bytes_cmp k y ≡ Less
less_than k x y apart kx ky xy = go (bytes_cmp k y) refl
  where
    not_tied : bytes_cmp k y ≡ Equal → ⊥
    not_tied e =
        let is : k ≡ y = exact_bytes k y e in
        let back : is_gt (bytes_cmp x k) ≡ false = subst (λ z. is_gt (bytes_cmp x z) ≡ false) (sym is) xy in
        let turned : bytes_cmp x k ≡ ordering_reverse (bytes_cmp k x) = nat_list_cmp_total.antisymm x k in
        at (bytes_cmp k x) refl back turned
      where
        at : (r : Ordering) → bytes_cmp k x ≡ r → is_gt (bytes_cmp x k) ≡ false → bytes_cmp x k ≡ ordering_reverse (bytes_cmp k x) → ⊥
        at Less e b t = both_ways (is_gt (bytes_cmp x k)) b (ap is_gt (t ∙ ap ordering_reverse e))
        at Equal e b t = let same : x ≡ k = sym (exact_bytes k x e) in both_ways (same_bytes x k) apart (ap (same_bytes x) (sym same) ∙ nat_list_eq_equiv.refl x)
        at Greater e b t = both_ways (is_gt (bytes_cmp k x)) kx (ap is_gt e)

    go : (r : Ordering) → bytes_cmp k y ≡ r → bytes_cmp k y ≡ Less
    go Less e = e
    go Equal e = absurd (not_tied e)
    go Greater e = absurd (both_ways (is_gt (bytes_cmp k y)) ky (ap is_gt e))

climbs_from : (k : List ℕ) (xs : List (List ℕ)) → AboveNone nat_list_cmp_total k xs → Rises nat_list_cmp_total xs → Climbs nat_list_cmp_total (dedup_from same_bytes k xs)
climbs_from k [] above rises = (tt, tt)
climbs_from k (x ∷ xs) above rises =
    let passed : Climbs nat_list_cmp_total (dedup_from same_bytes k xs) = climbs_from k xs above.1 rises.1 in
    let next : Climbs nat_list_cmp_total (dedup_from same_bytes x xs) = climbs_from x xs rises.0 rises.1 in
    elim (cases_Bool (same_bytes x k)) [
      | inl t ↦ simp t passed
      | inr n ↦
          let all : AllByRecursion (λ y. bytes_cmp k y ≡ Less) (dedup_from same_bytes x xs) =
          recursion_from_All (λ y. bytes_cmp k y ≡ Less) (dedup_from same_bytes x xs) (all_of (λ y. bytes_cmp k y ≡ Less) (dedup_from same_bytes x xs) (λ y c.
          let there = Contains-from_dedup same_bytes (x ∷ xs) y c in
          let not_above = All-contains (λ z. is_gt (bytes_cmp k z) ≡ false) (x ∷ xs) y (All-from_recursion (λ z. is_gt (bytes_cmp k z) ≡ false) (x ∷ xs) above) there in
          let behind : is_gt (bytes_cmp x y) ≡ false = elim (Contains-cons_cases x xs y there) [
            | inl e ↦ subst (λ z. is_gt (bytes_cmp x z) ≡ false) e (ap is_gt (tied_itself nat_list_cmp_total x))
            | inr i ↦ All-contains (λ z. is_gt (bytes_cmp x z) ≡ false) xs y (All-from_recursion (λ z. is_gt (bytes_cmp x z) ≡ false) xs rises.0) i
          ] in
          less_than k x y n above.0 not_above behind)) in
          simp n (all, next)
    ]

-- the members of a list, ascending, each once
abbrev pub each_once : List (List ℕ) → List (List ℕ)
each_once xs = dedup same_bytes (sorted_by bytes_cmp xs)

pub once_climbs : (xs : List (List ℕ)) → Climbs nat_list_cmp_total (each_once xs)
once_climbs xs = of (sorted_by bytes_cmp xs) (Rises-sorted_by nat_list_cmp_total xs)
  where
    of : (ys : List (List ℕ)) → Rises nat_list_cmp_total ys → Climbs nat_list_cmp_total (dedup same_bytes ys)
    of [] r = tt
    of (y ∷ ys) r = climbs_from y ys r.0 r.1

pub once_has : (xs : List (List ℕ)) (a : List ℕ) → Contains xs a → Contains (each_once xs) a
once_has xs a c =
    let sorted : List (List ℕ) = sorted_by bytes_cmp xs in
    Contains-dedup nat_list_eq_equiv same_bytes-true sorted a (Contains-permutation xs sorted a (IsPermutation-sorted_by bytes_cmp xs) c)

pub once_from : (xs : List (List ℕ)) (a : List ℕ) → Contains (each_once xs) a → Contains xs a
once_from xs a c =
    let sorted : List (List ℕ) = sorted_by bytes_cmp xs in
    Contains-permutation sorted xs a (IsPermutation-sym xs sorted (IsPermutation-sorted_by bytes_cmp xs)) (Contains-from_dedup same_bytes sorted a c)

-- lists with the same members have the same of these
pub once_same : (xs ys : List (List ℕ)) → ((a : List ℕ) → Contains xs a → Contains ys a) → ((a : List ℕ) → Contains ys a → Contains xs a) → each_once xs ≡ each_once ys
once_same xs ys f g =
    climbs_same nat_list_cmp_total (each_once xs) (each_once ys) (once_climbs xs) (once_climbs ys)
    (λ a c. once_has ys a (f a (once_from xs a c)))
    (λ a c. once_has xs a (g a (once_from ys a c)))
