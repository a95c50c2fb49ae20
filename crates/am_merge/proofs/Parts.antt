-- A list whose elements fall into parts, one below the other, is sorted part by part.
use Rattle.std.proofs.Common.{suc, ◌≡◌, List, [], ◌∷◌, ◌++◌, filter, Bool, true, not, ◌&&◌, refl, sym, ap, ◌∙◌, subst, inl, inr, AllPairs, Contains, arith}
use Rattle.std.specs.Cmp.{IsTotalOrder}
use Rattle.std.specs.List.{flat_map}
use Rattle.std.specs.Ordering.{is_gt}
use Rattle.std.specs.declared.cmp.Ordering.{Ordering}
use Rattle.std.proofs.lemmas.Bool.{both_ways, cases_Bool, not-true}
use Rattle.std.proofs.lemmas.Cmp.{tied_itself}
use Rattle.am_types.specs.Order.{sorted_by}
use Rattle.am_types.proofs.Lists.{Contains-head, Contains-tail}
use Rattle.am_types.proofs.Rising.{Rises-sorted_by, filter-sorted_by}
use Rattle.am_laws.proofs.Ancestry.{Contains-from_filter}
use Rattle.am_laws.proofs.SameMembers.{Contains-cons_cases}
use Rattle.am_merge.proofs.Lists.{filter-filter, filter_within}
use Rattle.am_merge.proofs.MergeParts.{front_first}
use Rattle.am_merge.proofs.Sorts.{Contains-from_sorted_by}

pub flat_map_within : {X Y : Type 0} (f g : X → List Y) (xs : List X) → ((x : X) → Contains xs x → f x ≡ g x) → flat_map f xs ≡ flat_map g xs
flat_map_within f g [] h = refl
flat_map_within f g (x ∷ xs) h =
    let again : flat_map f xs ≡ flat_map g xs = flat_map_within f g xs (λ y c. h y (Contains-tail x xs y c)) in
    λ i. h x (Contains-head x xs) i ++ again i

module _ {X K : Type 0} {R : X → X → Ordering} (total : IsTotalOrder R) (p : K → X → Bool) (P : X → Type 0) where
  -- what is in the part k is below what is in the part l
  abbrev pub IsBelowPart : K → K → Type 0
  IsBelowPart k l = (x y : X) → P x → P y → p k x ≡ true → p l y ≡ true → is_gt (R y x) ≡ true

  -- x is in one of the parts ks
  abbrev pub IsInPart : List K → X → Type 0
  IsInPart ks x = (k : K) × Contains ks k × (p k x ≡ true)

  pub sorted_in_parts : (ks : List K) (xs : List X) → AllPairs IsBelowPart ks → ((x : X) → Contains xs x → P x × IsInPart ks x) → sorted_by R xs ≡ flat_map (λ k. sorted_by R (filter (p k) xs)) ks
  sorted_in_parts [] [] pairs all = refl
  sorted_in_parts [] (x ∷ xs) pairs all = let a = (all x (Contains-head x xs)).1 in let c = a.1 in absurd (omega (arith, c.1))
  sorted_in_parts (k ∷ ks) xs pairs all =
      let L : List X = sorted_by R xs in
      let n : X → Bool = λ x. not (p k x) in
      let below : (l : K) → Contains ks l → IsBelowPart k l = λ l c. subst (IsBelowPart k) c.2 (pairs 0 (suc c.0) l (omega arith) (let b = c.1 in omega arith)) in
      let inside : (x : X) → Contains L x → P x × IsInPart (k ∷ ks) x = λ x c. all x (Contains-from_sorted_by R xs x c) in
      let cut : L ≡ filter (p k) L ++ filter n L =
      front_first total (p k) L (Rises-sorted_by total xs) (λ x y cx cy px py.
      let a = inside x cx in
      let b = inside y cy in
      let i = b.1 in
      elim (Contains-cons_cases k ks i.0 i.1) [
        | inl e ↦ absurd (both_ways (p k y) py (subst (λ m. p m y ≡ true) (sym e) i.2))
        | inr d ↦ below i.0 d x y a.0 b.0 px i.2
      ]) in
      let rest : sorted_by R (filter n xs) ≡ flat_map (λ l. sorted_by R (filter (p l) (filter n xs))) ks =
      sorted_in_parts ks (filter n xs) (λ i j d a b. pairs (suc i) (suc j) d (omega arith) (omega arith))
      (λ x c.
      let f = Contains-from_filter n xs x c in
      let a = all x f.0 in
      let i = a.1 in
      elim (Contains-cons_cases k ks i.0 i.1) [
        | inl e ↦ absurd (both_ways (p k x) (not-true (p k x) f.1) (subst (λ m. p m x ≡ true) (sym e) i.2))
        | inr d ↦ (a.0, (i.0, d, i.2))
      ]) in
      let others : flat_map (λ l. sorted_by R (filter (p l) (filter n xs))) ks ≡ flat_map (λ l. sorted_by R (filter (p l) xs)) ks =
      flat_map_within (λ l. sorted_by R (filter (p l) (filter n xs))) (λ l. sorted_by R (filter (p l) xs)) ks
      (λ l c. ap (sorted_by R) (filter-filter (p l) n xs ∙ filter_within (λ x. n x && p l x) (p l) xs (λ x d. apart l x (below l c) (all x d).0))) in
      cut
      ∙ (λ i. filter-sorted_by total (p k) xs i ++ filter-sorted_by total n xs i)
      ∙ ap (λ m. sorted_by R (filter (p k) xs) ++ m) (rest ∙ others)
    where
      apart : (l : K) (x : X) → IsBelowPart k l → P x → (not (p k x) && p l x) ≡ p l x
      apart l x below px = elim (cases_Bool (p k x)) [
        | inl t ↦ elim (cases_Bool (p l x)) [
          | inl u ↦ let e = tied_itself total x in absurd (both_ways (is_gt (R x x)) (rw e refl) (below x x px px t u))
          | inr u ↦ simp (t, u) refl
        ]
        | inr t ↦ simp t refl
      ]
