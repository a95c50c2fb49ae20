-- The depth of a change: one more than the greatest of its dependencies, and the same in a larger set.
use Rattle.std.proofs.Common.{ℕ, zero, suc, ◌≡◌, ◌+◌, ◌<◌, ◌≤◌, List, [], ◌∷◌, length, get_or, map, fold, max as larger, true, refl, sym, ap, ◌∙◌, subst, inl, inr, ◌⊎◌, All, Contains, arith}
use Rattle.std.proofs.lemmas.List.Elements.{All-head, All-tail}
use Rattle.am_types.specs.declared.Change.{Change}
use Rattle.am_types.specs.Order.{hash_cmp, among}
use Rattle.am_types.specs.Members.{Member}
use Rattle.am_types.specs.Canonical.{largest, dependencies, depth_within, depth}
use Rattle.am_laws.proofs.Ancestry.{Contains-filter, Contains-from_filter}

-- ---- lists

nothing_in : {X : Type 0} (xs : List X) → ((x : X) → Contains xs x → ⊥) → xs ≡ []
nothing_in [] none = refl
nothing_in (x ∷ xs) none = absurd (none x (0, omega arith, refl))

map_agree : {X Y : Type 0} (f g : X → Y) (xs : List X) → ((x : X) → Contains xs x → f x ≡ g x) → map f xs ≡ map g xs
map_agree f g [] e = refl
map_agree {X = X} f g (x ∷ xs) e =
    let again : map f xs ≡ map g xs = map_agree f g xs (λ y c. e y (suc c.0, (let l = c.1 in omega arith), c.2)) in
    λ i. e x (0, omega arith, refl) i ∷ again i

fold_is : (xs : List ℕ) (a d : ℕ) → All (λ x. x ≤ d) xs → a ≤ d → (d ≡ a) ⊎ Contains xs d → fold larger a xs ≡ d
fold_is [] a d all l at = elim at [ inl e ↦ sym e | inr c ↦ absurd (omega (arith, c.1)) ]
fold_is (x ∷ xs) a d all l at =
    let b : x ≤ d = All-head (λ x. x ≤ d) x xs all in
    let again : (larger a x ≤ d) → (d ≡ larger a x) ⊎ Contains xs d → fold larger (larger a x) xs ≡ d = fold_is xs (larger a x) d (All-tail (λ x. x ≤ d) x xs all) in
    again (omega arith) (elim at [ inl e ↦ inl (omega arith) | inr c ↦ there c.0 c.1 c.2 ])
  where
    there : (k : ℕ) → k < length (x ∷ xs) → get_or (x ∷ xs) k d ≡ d → (d ≡ larger a x) ⊎ Contains xs d
    there zero m e = (let b : x ≡ d = e in inl (omega arith))
    there (suc k) m e = inr (k, omega arith, e)

-- the greatest, by its two bounds
pub largest_is : (xs : List ℕ) (d : ℕ) → All (λ x. x ≤ d) xs → (d ≡ 0) ⊎ Contains xs d → largest xs ≡ d
largest_is xs d all at = fold_is xs 0 d all (omega arith) at

-- ---- depth

-- the dependencies of c have places below i
abbrev pub Low : List Member → ℕ → Change → Type 0
Low C i c = (m : Member) → Contains C m → among hash_cmp c.deps m.hash ≡ true → (j : ℕ) × (j < i) × (j < length C) × (get_or C j m ≡ m)

abbrev pub AllLow : List Member → Type 0
AllLow C = (j : ℕ) (d : Member) → j < length C → Low C j (get_or C j d).change

pub low_all : (C : List Member) (c : Change) → Low C (length C) c
low_all C c m cm d = (cm.0, cm.1, cm.1, cm.2)

module _ (C D : List Member) (low : AllLow C) (same : (j : ℕ) (d : Member) → j < length C → dependencies D (get_or C j d).change ≡ dependencies C (get_or C j d).change) where
  pub same_depth : (i n k : ℕ) → i ≤ n → i ≤ k → (c : Change) → Low C i c → dependencies D c ≡ dependencies C c → depth_within n D c ≡ depth_within k C c
  same_depth zero n k ln lk c l e =
      let none : dependencies C c ≡ [] = nothing_in (dependencies C c) (λ m cm. let f = Contains-from_filter (λ m. among hash_cmp c.deps m.hash) C m cm in let g = l m f.0 f.1 in absurd (omega (arith, g.1))) in
      flat n D c (e ∙ none) ∙ sym (flat k C c none)
    where
      flat : (n : ℕ) (E : List Member) (c : Change) → dependencies E c ≡ [] → depth_within n E c ≡ 0
      flat zero E c e = refl
      flat (suc n) E c e = ap (λ ms. largest (map (λ m. depth_within n E m.change + 1) ms)) e
  same_depth (suc i) zero k ln lk c l e = absurd (omega arith)
  same_depth (suc i) (suc n) zero ln lk c l e = absurd (omega arith)
  same_depth (suc i) (suc n) (suc k) ln lk c l e =
      let again : (c : Change) → Low C i c → dependencies D c ≡ dependencies C c → depth_within n D c ≡ depth_within k C c = same_depth i n k (omega arith) (omega arith) in
      let f : Member → ℕ = λ m. depth_within n D m.change + 1 in
      let g : Member → ℕ = λ m. depth_within k C m.change + 1 in
      let agree : map f (dependencies C c) ≡ map g (dependencies C c) = map_agree f g (dependencies C c) (λ m cm.
      let is = Contains-from_filter (λ m. among hash_cmp c.deps m.hash) C m cm in
      let at = l m is.0 is.1 in
      let j : ℕ = at.0 in
      let below : j < suc i = at.1 in
      let lower : Low C i m.change = λ p cp q. (let z = subst (λ x. Low C j x.change) at.3 (low j m at.2) p cp q in (z.0, (let y = z.1 in omega arith), z.2, z.3)) in
      ap (λ x. x + 1) (again m.change lower (subst (λ x. dependencies D x.change ≡ dependencies C x.change) at.3 (same j m at.2)))) in
      ap (λ ms. largest (map f ms)) e ∙ ap largest agree

-- the depth is one more than the greatest depth of a dependency
pub depth_law : (C : List Member) → AllLow C → (c : Change) → depth C c ≡ largest (map (λ m. depth C m.change + 1) (dependencies C c))
unfolding depth
depth_law C low c = same_depth C C low (λ j d l. refl) (length C) (length C) (suc (length C)) (omega arith) (omega arith) c (low_all C c) refl

-- what f gives of one of these
mapped : (f : Member → ℕ) (ms : List Member) (m : Member) (d : ℕ) → Contains ms m → d ≡ f m → Contains (map f ms) d
mapped f [] m d c e = absurd (omega (arith, c.1))
mapped f (x ∷ ms) m d c e = go (λ c. mapped f ms m d c e) c.0 c.1 c.2
  where
    go : (Contains ms m → Contains (map f ms) d) → (k : ℕ) → k < length (x ∷ ms) → get_or (x ∷ ms) k m ≡ m → Contains (map f (x ∷ ms)) d
    go again zero l s = (0, omega arith, ap f s ∙ sym e)
    go again (suc k) l s = let a = again (k, omega arith, s) in (suc a.0, (let b = a.1 in omega arith), a.2)

-- by bounds
pub depth_is : (C : List Member) → AllLow C → (c : Change) (d : ℕ) → ((m : Member) → Contains C m → among hash_cmp c.deps m.hash ≡ true → depth C m.change + 1 ≤ d)
    → (d ≡ 0) ⊎ ((m : Member) × Contains C m × (among hash_cmp c.deps m.hash ≡ true) × (d ≡ depth C m.change + 1)) → d ≡ depth C c
depth_is C low c d upper at =
    let f : Member → ℕ = λ m. depth C m.change + 1 in
    sym (depth_law C low c ∙ largest_is (map f (dependencies C c)) d (all (dependencies C c) (λ m cm. let is = Contains-from_filter (λ m. among hash_cmp c.deps m.hash) C m cm in upper m is.0 is.1))
    (elim at [ inl z ↦ inl z | inr g ↦ inr (mapped f (dependencies C c) g.0 d (Contains-filter (λ m. among hash_cmp c.deps m.hash) C g.0 g.1 g.2) g.3) ]))
  where
    all : (ms : List Member) → ((m : Member) → Contains ms m → depth C m.change + 1 ≤ d) → All (λ x. x ≤ d) (map (λ m. depth C m.change + 1) ms)
    all [] f k e l = absurd (omega arith)
    all (m ∷ ms) f zero e l = f m (0, omega arith, refl)
    all (m ∷ ms) f (suc k) e l = all ms (λ n c. f n (suc c.0, (let b = c.1 in omega arith), c.2)) k e (omega arith)
