-- The depth of a change is one more than the greatest of its dependencies, and doesn't depend on the listing.
use Rattle.std.proofs.Common.{ℕ, zero, suc, ◌≡◌, ◌+◌, ◌≤◌, List, [], ◌∷◌, ◌++◌, length, map, filter, fold, max as larger, Bool, true, refl, sym, ap, ◌∙◌, subst, inl, inr, All, Contains, IsPermutation, arith, append_assoc}
use Rattle.std.proofs.lemmas.List.{append-nil, length-append}
use Rattle.std.proofs.lemmas.List.Elements.{All-contains, Contains-push_cases, Contains-append_left, Contains-append_right}
use Rattle.std.proofs.lemmas.List.Sorted.{IsPermutation-map, IsPermutation-sym, length_permutation, Contains-permutation}
use Rattle.std.proofs.lemmas.List.Sums.{AllPass-from_list_all}
use Rattle.am_laws.specs.Records.{Change}
use Rattle.am_types.specs.Order.{hash_cmp, among}
use Rattle.am_types.specs.Members.{Member, holds}
use Rattle.am_types.specs.ValidSets.{Valid, JoinInTurn, Joins}
use Rattle.am_types.specs.Canonical.{largest, dependencies, depth_within, depth}
use Rattle.am_laws.proofs.Ancestry.{Contains-from_filter}
use Rattle.am_laws.proofs.Growth.{found_among}
use Rattle.am_laws.proofs.Agreement.{held_member}
use Rattle.am_laws.proofs.Listed.{Facts, listed}
use Rattle.am_types.proofs.Lists.{map_within}
use Rattle.am_types.proofs.Permutations.{IsPermutation-filter}

-- ---- the greatest of some numbers

above_start : (a : ℕ) (ns : List ℕ) → a ≤ fold larger a ns
above_start a [] = omega arith
above_start a (n ∷ ns) = let again = above_start (larger a n) ns in omega arith

above_each : (a : ℕ) (ns : List ℕ) (n : ℕ) → Contains ns n → n ≤ fold larger a ns
above_each a [] n c = absurd (omega (arith, c.1))
above_each a (m ∷ ns) n (zero, l, e) = let first = above_start (larger a m) ns in let is : m ≡ n = e in omega arith
above_each a (m ∷ ns) n (suc k, l, e) = above_each (larger a m) ns n (k, omega arith, e)

least_above : (a b : ℕ) (ns : List ℕ) → a ≤ b → ((n : ℕ) → Contains ns n → n ≤ b) → fold larger a ns ≤ b
least_above a b [] l h = l
least_above a b (n ∷ ns) l h =
    let first : n ≤ b = h n (0, omega arith, refl) in
    least_above (larger a n) b ns (omega arith) (λ m c. h m (suc c.0, omega (arith, c.1), c.2))

largest_below : (ms ns : List ℕ) → ((n : ℕ) → Contains ms n → Contains ns n) → largest ms ≤ largest ns
largest_below ms ns h = least_above 0 (largest ns) ms (omega arith) (λ n c. above_each 0 ns n (h n c))

pub largest-permutation : (ms ns : List ℕ) → IsPermutation ms ns → largest ns ≡ largest ms
largest-permutation ms ns p =
    let up = largest_below ms ns (λ n c. Contains-permutation ms ns n p c) in
    let down = largest_below ns ms (λ n c. Contains-permutation ns ms n (IsPermutation-sym ms ns p) c) in
    omega arith

-- ---- the order of the listing

depth_within-permutation : (C D : List Member) → IsPermutation C D → (n : ℕ) (c : Change) → depth_within n D c ≡ depth_within n C c
depth_within-permutation C D p zero c = refl
depth_within-permutation C D p (suc n) c =
    let again : (m : Member) → depth_within n D m.change ≡ depth_within n C m.change = λ m. depth_within-permutation C D p n m.change in
    let below : Member → ℕ = λ m. depth_within n C m.change + 1 in
    let deps : Member → Bool = λ m. among hash_cmp c.deps m.hash in
    (λ i. largest (map (λ m. again m i + 1) (filter deps D)))
    ∙ largest-permutation (map below (filter deps C)) (map below (filter deps D)) (IsPermutation-map below (filter deps C) (filter deps D) (IsPermutation-filter deps C D p))

pub depth-permutation : (C D : List Member) → IsPermutation C D → (c : Change) → depth D c ≡ depth C c
unfolding depth
depth-permutation C D p c = ap (λ n. depth_within n D c) (length_permutation C D p) ∙ depth_within-permutation C D p (length C) c

-- ---- the greatest of its dependencies

nothing_in : {X : Type 0} (xs : List X) → ((x : X) → Contains xs x → ⊥) → xs ≡ []
nothing_in [] h = refl
nothing_in (x ∷ xs) h = absurd (h x (0, omega arith, refl))

module _ (L : List Member) (facts : Facts L) where
  -- with n steps or more than n, the depth of each of these is the same
  abbrev Rests : List Member → Type 0
  Rests before = (m : Member) → Contains before m → (n : ℕ) → length before ≤ n + 1 → depth_within (suc n) L m.change ≡ depth_within n L m.change

  -- the dependencies of what joins are among those before it
  among_before : (before : List Member) → ((m : Member) → Contains before m → Contains L m) → (x : Member) → Contains L x → Joins before x → (d : Member) → Contains (dependencies L x.change) d → Contains before d
  among_before before inside x cx joins d c =
      let is = Contains-from_filter (λ (m : Member). among hash_cmp x.change.deps m.hash) L d c in
      let held : All (λ h. holds before h ≡ true) x.change.deps = AllPass-from_list_all (holds before) x.change.deps joins.deps in
      let there = held_member before d.hash (All-contains (λ h. holds before h ≡ true) x.change.deps d.hash held (found_among x.change.deps d.hash is.1)) in
      subst (Contains before) (facts.one_hash there.0 d (inside there.0 there.1) is.0 there.2) there.1

  rests_push : (before : List Member) → ((m : Member) → Contains before m → Contains L m) → (x : Member) → Contains L x → Joins before x → Rests before → Rests (before ++ x ∷ [])
  rests_push before inside x cx joins rests m c n l =
      let size : length (before ++ x ∷ []) ≡ length before + 1 = length-append before (x ∷ []) in
      elim (Contains-push_cases before x m c) [
        | inl b ↦ rests m b n (omega arith)
        | inr e ↦ subst (λ m. depth_within (suc n) L m.change ≡ depth_within n L m.change) e (last n (omega arith))
      ]
    where
      last : (n : ℕ) → length before ≤ n → depth_within (suc n) L x.change ≡ depth_within n L x.change
      last zero l =
          let none : dependencies L x.change ≡ [] = nothing_in (dependencies L x.change) (λ d c. let b = among_before before inside x cx joins d c in omega (arith, b.1)) in
          ap (λ ds. largest (map (λ m. depth_within 0 L m.change + 1) ds)) none
      last (suc n) l =
          ap largest (map_within (λ m. depth_within (suc n) L m.change + 1) (λ m. depth_within n L m.change + 1) (dependencies L x.change)
          (λ d c. ap (λ k. k + 1) (rests d (among_before before inside x cx joins d c) n (omega arith))))

  rests_from : (before rest : List Member) → before ++ rest ≡ L → JoinInTurn before rest → Rests before → Rests L
  rests_from before [] e turn rests = subst Rests (sym (append-nil before) ∙ e) rests
  rests_from before (x ∷ rest) e turn rests =
      let more : (before ++ x ∷ []) ++ rest ≡ L = append_assoc before (x ∷ []) rest ∙ e in
      let inside : (m : Member) → Contains (before ++ x ∷ []) m → Contains L m = λ m c. subst (λ l. Contains l m) more (Contains-append_left (before ++ x ∷ []) rest m c) in
      let cx : Contains L x = inside x (Contains-append_right before (x ∷ []) x (0, omega arith, refl)) in
      rests_from (before ++ x ∷ []) rest more turn.1 (rests_push before (λ m c. inside m (Contains-append_left before (x ∷ []) m c)) x cx turn.0 rests)

  depth_counts_in : JoinInTurn [] L → (m : Member) → Contains L m → depth L m.change ≡ largest (map (λ d. depth L d.change + 1) (dependencies L m.change))
  unfolding depth
  depth_counts_in turn m c =
      let rests : Rests L = rests_from [] L refl turn (λ m c. absurd (omega (arith, c.1))) in
      sym (rests m c (length L) (omega arith))

-- one more than the greatest depth of a dependency
pub depth_counts : (C : List Member) → Valid C → (m : Member) → Contains C m → depth C m.change ≡ largest (map (λ d. depth C d.change + 1) (dependencies C m.change))
depth_counts C v m c =
    let L = v.listing in
    let same : (c : Change) → depth L c ≡ depth C c = depth-permutation C L v.same in
    let below : Member → ℕ = λ d. depth C d.change + 1 in
    sym (same m.change)
    ∙ depth_counts_in L (listed L v.in_turn) v.in_turn m (Contains-permutation C L m v.same c)
    ∙ (λ i. largest (map (λ d. same d.change i + 1) (dependencies L m.change)))
    ∙ largest-permutation (map below (dependencies C m.change)) (map below (dependencies L m.change))
    (IsPermutation-map below (dependencies C m.change) (dependencies L m.change) (IsPermutation-filter (λ d. among hash_cmp m.change.deps d.hash) C L v.same))
