-- Sums over lists: of parts, in either order, and of what is counted once.
use Rattle.std.proofs.Common.{ℕ, suc, ◌≡◌, ◌+◌, ◌≤◌, List, [], ◌∷◌, length, map, filter, flat_map, Bool, true, false, cond, refl, sym, ap, ◌∙◌, inl, inr, subst, sum_by, Contains, arith}
use Rattle.std.proofs.lemmas.Bool.{cases_Bool}
use Rattle.std.proofs.lemmas.List.Sums.{sum_by-cons, sum_by-append}
use Rattle.std.proofs.lemmas.List.Elements.{Contains-append_left, Contains-append_right, Contains-append_cases}
use Rattle.am_laws.proofs.SameMembers.{Contains-cons_cases}

-- one where the test is passed, else none
abbrev pub one_if : Bool → ℕ
one_if b = cond b 1 0

pub count_true : (b : Bool) → b ≡ true → one_if b ≡ 1
count_true b e = ap one_if e

pub count_false : (b : Bool) → b ≡ false → one_if b ≡ 0
count_false b e = ap one_if e

module _ {X : Type 0} where
  pub sum_by-plus : (f g : X → ℕ) (xs : List X) → sum_by (λ x. f x + g x) xs ≡ sum_by f xs + sum_by g xs
  sum_by-plus f g [] = refl
  sum_by-plus f g (x ∷ xs) =
      let a = sum_by-cons (λ x. f x + g x) x xs in
      let b = sum_by-cons f x xs in
      let c = sum_by-cons g x xs in
      let d = sum_by-plus f g xs in
      omega arith

  pub sum_by-zero : (xs : List X) → sum_by (λ x. 0) xs ≡ 0
  sum_by-zero [] = refl
  sum_by-zero (x ∷ xs) = let a = sum_by-cons (λ (x : X). 0) x xs in let b = sum_by-zero xs in omega arith

  pub sum_by-filter-le : (f : X → ℕ) (p : X → Bool) (xs : List X) → sum_by f (filter p xs) ≤ sum_by f xs
  sum_by-filter-le f p [] = omega arith
  sum_by-filter-le f p (x ∷ xs) =
      let b = sum_by-filter-le f p xs in
      let c = sum_by-cons f x xs in
      elim (cases_Bool (p x)) [
        | inl t ↦ simp t (let a = sum_by-cons f x (filter p xs) in omega arith)
        | inr t ↦ simp t (omega arith)
      ]

  -- as many pass a test as the sum of ones says
  pub length-filter_sum : (p : X → Bool) (xs : List X) → length (filter p xs) ≡ sum_by (λ x. cond (p x) 1 0) xs
  length-filter_sum p [] = refl
  length-filter_sum p (x ∷ xs) =
      let b = length-filter_sum p xs in
      let c = sum_by-cons (λ x. cond (p x) 1 0) x xs in
      elim (cases_Bool (p x)) [
        | inl t ↦
            let d = count_true (p x) t in
            let e : length (filter p (x ∷ xs)) ≡ length (x ∷ filter p xs) = ap (λ t. length (cond t (x ∷ filter p xs) (filter p xs))) t in
            omega arith
        | inr t ↦
            let d = count_false (p x) t in
            let e : length (filter p (x ∷ xs)) ≡ length (filter p xs) = ap (λ t. length (cond t (x ∷ filter p xs) (filter p xs))) t in
            omega arith
      ]

  pub length-filter_le : (p : X → Bool) (xs : List X) → length (filter p xs) ≤ length xs
  length-filter_le p [] = omega arith
  length-filter_le p (x ∷ xs) =
      let b = length-filter_le p xs in
      elim (cases_Bool (p x)) [
        | inl t ↦ let e : length (filter p (x ∷ xs)) ≡ length (x ∷ filter p xs) = ap (λ t. length (cond t (x ∷ filter p xs) (filter p xs))) t in omega arith
        | inr t ↦ let e : length (filter p (x ∷ xs)) ≡ length (filter p xs) = ap (λ t. length (cond t (x ∷ filter p xs) (filter p xs))) t in omega arith
      ]

  pub sum_by-agree : (f g : X → ℕ) → ((x : X) → f x ≡ g x) → (xs : List X) → sum_by f xs ≡ sum_by g xs
  sum_by-agree f g e [] = refl
  sum_by-agree f g e (x ∷ xs) =
      let a = sum_by-cons f x xs in
      let b = sum_by-cons g x xs in
      let c = sum_by-agree f g e xs in
      let d = e x in
      omega arith

module _ {X Y : Type 0} where
  pub sum_by-map : (f : Y → ℕ) (g : X → Y) (xs : List X) → sum_by f (map g xs) ≡ sum_by (λ x. f (g x)) xs
  sum_by-map f g [] = refl
  sum_by-map f g (x ∷ xs) =
      let a = sum_by-cons f (g x) (map g xs) in
      let b = sum_by-cons (λ x. f (g x)) x xs in
      let c = sum_by-map f g xs in
      omega arith

  -- a sum of sums in either order
  pub sum_by-swap : (f : X → Y → ℕ) (xs : List X) (ys : List Y) → sum_by (λ x. sum_by (f x) ys) xs ≡ sum_by (λ y. sum_by (λ x. f x y) xs) ys
  sum_by-swap f [] ys = sym (sum_by-zero ys)
  sum_by-swap f (x ∷ xs) ys =
      let a = sum_by-cons (λ x. sum_by (f x) ys) x xs in
      let b = sum_by-swap f xs ys in
      let c = sum_by-plus (f x) (λ y. sum_by (λ x. f x y) xs) ys in
      let d = sum_by-agree (λ y. sum_by (λ x. f x y) (x ∷ xs)) (λ y. f x y + sum_by (λ x. f x y) xs) (λ y. sum_by-cons (λ x. f x y) x xs) ys in
      a ∙ ap (λ n. sum_by (f x) ys + n) b ∙ sym c ∙ sym d

  pub sum_by-flat_map : (f : Y → ℕ) (g : X → List Y) (xs : List X) → sum_by f (flat_map g xs) ≡ sum_by (λ x. sum_by f (g x)) xs
  sum_by-flat_map f g [] = refl
  sum_by-flat_map f g (x ∷ xs) =
      let a = sum_by-append f (g x) (flat_map g xs) in
      let b = sum_by-cons (λ x. sum_by f (g x)) x xs in
      let c = sum_by-flat_map f g xs in
      omega arith

  pub Contains-flat_map : (f : X → List Y) (xs : List X) (x : X) (y : Y) → Contains xs x → Contains (f x) y → Contains (flat_map f xs) y
  Contains-flat_map f [] x y c d = absurd (omega (arith, c.1))
  Contains-flat_map f (z ∷ xs) x y c d =
      let again : Contains xs x → Contains (flat_map f xs) y = λ r. Contains-flat_map f xs x y r d in
      elim (Contains-cons_cases z xs x c) [
        | inl e ↦ Contains-append_left (f z) (flat_map f xs) y (subst (λ q. Contains (f q) y) (sym e) d)
        | inr r ↦ Contains-append_right (f z) (flat_map f xs) y (again r)
      ]

  pub Contains-from_flat_map : (f : X → List Y) (xs : List X) (y : Y) → Contains (flat_map f xs) y → (x : X) × Contains xs x × Contains (f x) y
  Contains-from_flat_map f [] y c = absurd (omega (arith, c.1))
  Contains-from_flat_map f (z ∷ xs) y c =
      let again : Contains (flat_map f xs) y → (x : X) × Contains xs x × Contains (f x) y = Contains-from_flat_map f xs y in
      elim (Contains-append_cases (f z) (flat_map f xs) y c) [
        | inl here ↦ (z, (0, omega arith, refl), here)
        | inr there ↦ let g = again there in let place = g.1 in (g.0, (suc place.0, omega arith, place.2), g.2)
      ]

  pub Contains-from_map : (f : X → Y) (xs : List X) (y : Y) → Contains (map f xs) y → (x : X) × Contains xs x × (y ≡ f x)
  Contains-from_map f [] y c = absurd (omega (arith, c.1))
  Contains-from_map f (z ∷ xs) y c =
      let again : Contains (map f xs) y → (x : X) × Contains xs x × (y ≡ f x) = Contains-from_map f xs y in
      elim (Contains-cons_cases (f z) (map f xs) y c) [
        | inl e ↦ (z, (0, omega arith, refl), sym e)
        | inr r ↦ let g = again r in let place = g.1 in (g.0, (suc place.0, omega arith, place.2), g.2)
      ]
