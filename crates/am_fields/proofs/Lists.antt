-- Lists that are the same field by field, or part by part.
use Rattle.std.proofs.Common.{◌≡◌, ℕ, zero, suc, add-one, ◌+◌, List, [], ◌∷◌, ◌++◌, length, map, drop, None, refl, sym, ap, ◌∙◌, arith}
use Rattle.std.specs.Prelude.{slice_get}
use Rattle.std.specs.List.{flat_map, AllByRecursion}

pub same_map_pair : {X A B : Type 0} (f : X → A) (g : X → B) (xs ys : List X) → map f xs ≡ map f ys → map g xs ≡ map g ys → map {B = A × B} (λ x. (f x, g x)) xs ≡ map (λ x. (f x, g x)) ys
same_map_pair f g [] [] p q = refl
same_map_pair f g [] (y ∷ ys) p q = cc
same_map_pair f g (x ∷ xs) [] p q = cc
same_map_pair {A = A} {B = B} f g (x ∷ xs) (y ∷ ys) p q =
    let a : f x ≡ f y = cc in
    let b : g x ≡ g y = cc in
    let more : map {B = A × B} (λ x. (f x, g x)) xs ≡ map (λ x. (f x, g x)) ys = same_map_pair f g xs ys (cc) (cc) in
    cc

pub same_from_map : {X A : Type 0} (f : X → A) → ((x y : X) → f x ≡ f y → x ≡ y) → (xs ys : List X) → map f xs ≡ map f ys → xs ≡ ys
same_from_map f same [] [] p = refl
same_from_map f same [] (y ∷ ys) p = cc
same_from_map f same (x ∷ xs) [] p = cc
same_from_map f same (x ∷ xs) (y ∷ ys) p =
    let a : x ≡ y = same x y cc in
    let more : xs ≡ ys = same_from_map f same xs ys cc in
    cc

pub same_parts : {A : Type 0} (a b r s : List A) → length a ≡ length b → a ++ r ≡ b ++ s → (a ≡ b) × (r ≡ s)
same_parts [] [] r s n p = (refl, p)
same_parts [] (y ∷ b) r s n p = absurd (omega arith)
same_parts (x ∷ a) [] r s n p = absurd (omega arith)
same_parts (x ∷ a) (y ∷ b) r s n p =
    let head : x ≡ y = cc in
    let rest : (a ≡ b) × (r ≡ s) = same_parts a b r s (omega arith) cc in
    (cc, rest.1)

-- lists of the same lengths, which joined are the same, are the same
pub same_groups : {X A : Type 0} (f : X → List A) (xs ys : List X) → map (λ x. length (f x)) xs ≡ map (λ x. length (f x)) ys → flat_map f xs ≡ flat_map f ys → map f xs ≡ map f ys
same_groups f [] [] n p = refl
same_groups f [] (y ∷ ys) n p = cc
same_groups f (x ∷ xs) [] n p = cc
same_groups f (x ∷ xs) (y ∷ ys) n p =
    let parts : (f x ≡ f y) × (flat_map f xs ≡ flat_map f ys) = same_parts (f x) (f y) (flat_map f xs) (flat_map f ys) (cc) p in
    let more : map f xs ≡ map f ys = same_groups f xs ys (cc) parts.1 in
    cc

pub same_lengths : {X A : Type 0} (f : X → A) (xs ys : List X) → map f xs ≡ map f ys → length xs ≡ length ys
same_lengths f [] [] p = refl
same_lengths f [] (y ∷ ys) p = cc
same_lengths f (x ∷ xs) [] p = cc
same_lengths f (x ∷ xs) (y ∷ ys) p = let more : length xs ≡ length ys = same_lengths f xs ys cc in cc

pub all-append : {A : Type 0} (P : A → Type 0) (xs ys : List A) → AllByRecursion P xs → AllByRecursion P ys → AllByRecursion P (xs ++ ys)
all-append P [] ys a b = b
all-append P (x ∷ xs) ys a b = (a.0, all-append P xs ys a.1 b)

-- what is left behind the next item
pub drop_next : {A : Type 0} (i : ℕ) (xs ys : List A) (x : A) → drop i xs ≡ x ∷ ys → ys ≡ drop (i + 1) xs
drop_next i xs ys x e = sym (ap (λ k. drop k xs) (add-one i) ∙ further i xs ys x e)
  where
    further : {A : Type 0} (i : ℕ) (xs ys : List A) (x : A) → drop i xs ≡ x ∷ ys → drop (suc i) xs ≡ ys
    further zero [] ys x e = absurd (cc)
    further zero (z ∷ xs) ys x e = cc
    further (suc i) [] ys x e = absurd (cc)
    further (suc i) (z ∷ xs) ys x e = further i xs ys x e

-- what stands behind so many, by its first
pub first_behind : {A : Type 0} (xs : List A) (n : ℕ) → drop n xs ≡ [] → slice_get xs n ≡ None
first_behind [] n e = refl
first_behind (x ∷ xs) zero e = absurd (cc)
first_behind (x ∷ xs) (suc n) e = first_behind xs n e
