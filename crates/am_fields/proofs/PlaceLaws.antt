-- Where an actor stands in a list of actors.
use Rattle.std.proofs.Common.{◌≡◌, ℕ, zero, suc, ◌<◌, ◌≤◌, List, [], ◌∷◌, length, drop, Option, Some, None, true, false, ⊎_elim, Ordering, Less, Equal, Greater, refl, sym, ap, ◌∙◌, arith, get_or}
use Rattle.std.specs.Prelude.{slice_get, if◌then◌else◌}
use Rattle.std.specs.Ordering.{is_eq}
use Rattle.std.proofs.lemmas.Cmp.{nat_list_cmp_total, tied_itself}
use Rattle.std.proofs.lemmas.Map.Lookups.{exact_bytes}
use Rattle.am_types.specs.Order.{bytes_cmp}
use Rattle.am_fields.specs.Actors.{IsListed}
use Rattle.am_fields.specs.Columns.{is_actor, place_of}

pub place-here : (actors : List (List ℕ)) (i : ℕ) (actor at : List ℕ) → i < length actors → at ≡ get_or actors i at → is_actor actor at ≡ true → place_of (drop i actors) actor ≡ 0
place-here [] i actor at n e t = absurd (omega arith)
place-here (x ∷ actors) zero actor at n e t = let same : at ≡ x = e in rw (ap (is_actor actor) (sym same) ∙ t) refl
place-here (x ∷ actors) (suc i) actor at n e t = place-here actors i actor at (omega arith) e t

pub place-next : (actors : List (List ℕ)) (i : ℕ) (actor at : List ℕ) → i < length actors → at ≡ get_or actors i at → is_actor actor at ≡ false → place_of (drop i actors) actor ≡ suc (place_of (drop (suc i) actors) actor)
place-next [] i actor at n e t = absurd (omega arith)
place-next (x ∷ actors) zero actor at n e t = let same : at ≡ x = e in rw (ap (is_actor actor) (sym same) ∙ t) refl
place-next (x ∷ actors) (suc i) actor at n e t = place-next actors i actor at (omega arith) e t

-- the same by any number that is one more
pub place-next-at : (actors : List (List ℕ)) (i j : ℕ) (actor at : List ℕ) → j ≡ suc i → i < length actors → at ≡ get_or actors i at → is_actor actor at ≡ false → place_of (drop i actors) actor ≡ suc (place_of (drop j actors) actor)
place-next-at actors i j actor at s n e t = place-next actors i actor at n e t ∙ ap (λ k. suc (place_of (drop k actors) actor)) (sym s)

equal_of : (r : Ordering) → is_eq r ≡ true → r ≡ Equal
equal_of Less e = absurd (cc)
equal_of Equal e = refl
equal_of Greater e = absurd (cc)

pub is_actor-same : (a b : List ℕ) → is_actor a b ≡ true → a ≡ b
is_actor-same a b e = exact_bytes a b (equal_of (bytes_cmp a b) e)

pub is_actor-itself : (a : List ℕ) → is_actor a a ≡ true
is_actor-itself a = ap is_eq (tied_itself nat_list_cmp_total a)

-- a listed actor is found at its place
pub found : (xs : List (List ℕ)) (a : List ℕ) → IsListed xs a → slice_get xs (place_of xs a) ≡ Some a
found [] a h = absurd h
found (x ∷ xs) a h =
    elim (is_actor a x) as (λ b. is_actor a x ≡ b → slice_get (x ∷ xs) (if b then 0 else suc (place_of xs a)) ≡ Some a) [
      | true ↦ λ t. ap Some (sym (is_actor-same a x t))
      | false ↦ λ t. found xs a (⊎_elim (λ e. absurd (let itself : is_actor a x ≡ true = ap (is_actor a) (sym e) ∙ is_actor-itself a in cc)) (λ m. m) h)
    ] refl

pub place_of-le : (xs : List (List ℕ)) (a : List ℕ) → place_of xs a ≤ length xs
place_of-le [] a = omega arith
place_of-le (x ∷ xs) a =
    elim (is_actor a x) as (λ b. (if b then 0 else suc (place_of xs a)) ≤ suc (length xs)) [
      | true ↦ omega arith
      | false ↦ let more = place_of-le xs a in omega arith
    ]

-- the actor is null, or one of the actors

-- the actor is null, or one of the actors
abbrev pub IsKnown : List (List ℕ) → Option (List ℕ) → Type 0
IsKnown actors None = Unit {0}
IsKnown actors (Some a) = slice_get actors (place_of actors a) ≡ Some a
