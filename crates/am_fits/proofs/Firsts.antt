-- The first of a list that passes a test, found by a loop.
use Rattle.std.proofs.Common.{ℕ, zero, suc, ◌≡◌, ◌<◌, List, [], ◌∷◌, length, get_or, find, Bool, true, false, Some, None, cond, refl, ap, ◌∙◌, arith}
use Rattle.std.specs.List.{AllWithin}

pub find_first : {X : Type 0} (p : X → Bool) (xs : List X) (i : ℕ) (d : X) → i < length xs → AllWithin (λ x. p x ≡ false) xs 0 i → p (get_or xs i d) ≡ true → find p xs ≡ Some (get_or xs i d)
find_first p [] i d l none t = absurd (omega arith)
find_first p (x ∷ xs) zero d l none t = ap (λ b. cond b (Some x) (find p xs)) t
find_first p (x ∷ xs) (suc i) d l none t =
    let again : find p xs ≡ Some (get_or xs i d) = find_first p xs i d (omega arith) (λ k e z m. none (suc k) e (omega arith) (omega arith)) t in
    ap (λ b. cond b (Some x) (find p xs)) (none 0 x (omega arith) (omega arith)) ∙ again

pub find_nothing : {X : Type 0} (p : X → Bool) (xs : List X) → AllWithin (λ x. p x ≡ false) xs 0 (length xs) → find p xs ≡ None
find_nothing p [] none = refl
find_nothing p (x ∷ xs) none =
    let again : find p xs ≡ None = find_nothing p xs (λ k e z m. none (suc k) e (omega arith) (omega arith)) in
    ap (λ b. cond b (Some x) (find p xs)) (none 0 x (omega arith) (omega arith)) ∙ again
