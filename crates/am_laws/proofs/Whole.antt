-- Each member of a valid set is an ancestor of its heads.
use Rattle.std.proofs.Common.{ℕ, zero, suc, ◌≡◌, ◌≤◌, ◌+◌, List, [], ◌∷◌, map, filter, fold, max as larger, Bool, true, false, not, refl, ap, ◌∙◌, inl, inr, Contains, arith}
use Rattle.std.specs.Prelude.{All}
use Rattle.std.proofs.lemmas.Bool.{cases_Bool}
use Rattle.std.proofs.lemmas.Cmp.{eq_by_cmp_equiv}
use Rattle.std.proofs.lemmas.Map.Views.{list_any-from_Contains}
use Rattle.std.proofs.lemmas.List.Folds.{Any-from_list_any}
use Rattle.std.proofs.lemmas.List.Sorted.{Contains-permutation, IsPermutation-sym}
use Rattle.am_types.specs.declared.Hash.{Hash}
use Rattle.am_types.specs.Order.{hash_cmp, among}
use Rattle.am_types.specs.Members.{Member, hashes, holds, heads, is_dependency}
use Rattle.am_types.specs.Ancestors.{ancestors}
use Rattle.am_types.specs.Canonical.{depth, dependencies, largest}
use Rattle.am_types.specs.ValidSets.{Valid}
use Rattle.am_types.proofs.Lists.{all_of, Contains-head, Contains-tail}
use Rattle.am_types.proofs.Orders.{hash_total}
use Rattle.am_types.proofs.Sorting.{IsPermutation-sorted_by}
use Rattle.am_laws.proofs.Ancestry.{Contains-filter, Contains-from_filter, ancestors_closed, ancestors_named}
use Rattle.am_laws.proofs.Depths.{depth_counts}
use Rattle.am_laws.proofs.SharedAncestors.{ancestors_keep_order}

above_start : (a : ℕ) (ns : List ℕ) → a ≤ fold larger a ns
above_start a [] = omega arith
above_start a (n ∷ ns) = let again = above_start (larger a n) ns in omega arith

above_each : (a : ℕ) (ns : List ℕ) (n : ℕ) → Contains ns n → n ≤ fold larger a ns
above_each a [] n c = absurd (omega (arith, c.1))
above_each a (m ∷ ns) n (zero, l, e) = let first = above_start (larger a m) ns in let is : m ≡ n = e in omega arith
above_each a (m ∷ ns) n (suc k, l, e) = above_each (larger a m) ns n (k, omega arith, e)

Contains-map : {X Y : Type 0} (f : X → Y) (xs : List X) (x : X) → Contains xs x → Contains (map f xs) (f x)
Contains-map f [] x c = absurd (omega (arith, c.1))
Contains-map f (y ∷ xs) x (zero, l, e) = (zero, omega arith, ap f e)
Contains-map f (y ∷ xs) x (suc k, l, e) = Contains-tail (f y) (map f xs) (f x) (Contains-map f xs x (k, omega arith, e))

filter_whole : {X : Type 0} (p : X → Bool) (xs : List X) → ((x : X) → Contains xs x → p x ≡ true) → filter p xs ≡ xs
filter_whole p [] h = refl
filter_whole p (x ∷ xs) h =
    let here : p x ≡ true = h x (Contains-head x xs) in
    simp here (ap (λ l. x ∷ l) (filter_whole p xs (λ y c. h y (Contains-tail x xs y c))))

module _ (C : List Member) (v : Valid C) where
  abbrev deep : Member → ℕ
  deep m = depth C m.change

  abbrev deepest : ℕ
  deepest = largest (map deep C)

  up : (m e : Member) → Contains C m → Contains C e → among hash_cmp e.change.deps m.hash ≡ true → deep m + 1 ≤ deep e
  up m e cm ce named =
      let there = Contains-map (λ d. depth C d.change + 1) (dependencies C e.change) m (Contains-filter (λ d. among hash_cmp e.change.deps d.hash) C m cm named) in
      let most = above_each 0 (map (λ d. depth C d.change + 1) (dependencies C e.change)) (depth C m.change + 1) there in
      omega (arith, most, depth_counts C v e ce)

  head_among : (m : Member) → Contains C m → is_dependency C m.hash ≡ false → among hash_cmp (heads C) m.hash ≡ true
  head_among m c none =
      let kept : List Hash = filter (λ h. not (is_dependency C h)) (hashes C) in
      let at = Contains-permutation kept (heads C) m.hash (IsPermutation-sorted_by hash_cmp kept) (Contains-filter (λ h. not (is_dependency C h)) (hashes C) m.hash (Contains-map (λ n. n.hash) C m c) (ap not none)) in
      list_any-from_Contains (eq_by_cmp_equiv hash_total) m.hash (heads C) at

  inside : (k : ℕ) (m : Member) → Contains C m → deepest + 1 ≤ deep m + k → Contains (ancestors C (heads C)) m
  inside zero m c l = let most = above_each 0 (map deep C) (deep m) (Contains-map deep C m c) in absurd (omega (arith, most, l))
  inside (suc k) m c l =
      elim (cases_Bool (is_dependency C m.hash)) [
        | inl t ↦
            let a = Any-from_list_any (λ e. among hash_cmp e.change.deps m.hash) C t in
            let e : Member = a.1 in
            let ce : Contains C e = (a.0, a.2, a.3) in
            let higher = up m e c ce a.4 in
            ancestors_closed C (heads C) e m (inside k e ce (omega (arith, higher, l))) a.4 c
        | inr f ↦ ancestors_named C (heads C) m c (head_among m c f)
      ]

  held : (m : Member) → Contains C m → holds (ancestors C (heads C)) m.hash ≡ true
  held m c =
      let there = inside (deepest + 1) m c (omega arith) in
      list_any-from_Contains (eq_by_cmp_equiv hash_total) m.hash (hashes (ancestors C (heads C))) (Contains-map (λ n. n.hash) (ancestors C (heads C)) m there)

  pub all_are_ancestors : ancestors C (heads C) ≡ C
  all_are_ancestors = ancestors_keep_order C (heads C) ∙ filter_whole (λ m. holds (ancestors C (heads C)) m.hash) C held

  pub heads_are_held : All (λ h. holds C h ≡ true) (heads C)
  heads_are_held =
      let kept : List Hash = filter (λ h. not (is_dependency C h)) (hashes C) in
      all_of (λ h. holds C h ≡ true) (heads C) (λ h c.
      list_any-from_Contains (eq_by_cmp_equiv hash_total) h (hashes C) (Contains-from_filter (λ h. not (is_dependency C h)) (hashes C) h (Contains-permutation (heads C) kept h (IsPermutation-sym kept (heads C) (IsPermutation-sorted_by hash_cmp kept)) c)).0)
