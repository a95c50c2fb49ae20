-- So many like one that come before the others.
use Rattle.std.proofs.Common.{◌≡◌, ℕ, zero, suc, ◌-◌, ◌≤◌, List, ◌∷◌, ◌++◌, take, drop, replicate, Option, Some, None, refl, arith, ap, ◌∙◌, subst}
use Rattle.std.specs.Prelude.{IfSome}
use Rattle.std.proofs.lemmas.List.{append_assoc}

pub drop-ahead : {X : Type 0} (k n : ℕ) (x : X) (xs : List X) → k ≤ n → replicate (n - k) x ++ xs ≡ drop k (replicate n x ++ xs)
drop-ahead zero n x xs h = ap (λ m. replicate m x ++ xs) (let e : n - 0 ≡ n = omega arith in e)
drop-ahead (suc k) zero x xs h = absurd (omega arith)
drop-ahead (suc k) (suc n) x xs h = ap (λ m. replicate m x ++ xs) (let e : suc n - suc k ≡ n - k = omega arith in e) ∙ drop-ahead k n x xs (omega arith)

pub drop-behind : {X : Type 0} (k n : ℕ) (x : X) (xs : List X) → n ≤ k → drop (k - n) xs ≡ drop k (replicate n x ++ xs)
drop-behind k zero x xs h = ap (λ m. drop m xs) (let e : k - 0 ≡ k = omega arith in e)
drop-behind zero (suc n) x xs h = absurd (omega arith)
drop-behind (suc k) (suc n) x xs h = ap (λ m. drop m xs) (let e : suc k - suc n ≡ k - n = omega arith in e) ∙ drop-behind k n x xs (omega arith)

pub take-ahead : {X : Type 0} (k n : ℕ) (x : X) (xs : List X) → k ≤ n → replicate k x ≡ take k (replicate n x ++ xs)
take-ahead zero n x xs h = refl
take-ahead (suc k) zero x xs h = absurd (omega arith)
take-ahead (suc k) (suc n) x xs h = ap (λ l. x ∷ l) (take-ahead k n x xs (omega arith))

pub take-behind : {X : Type 0} (k n : ℕ) (x : X) (xs : List X) → n ≤ k → replicate n x ++ take (k - n) xs ≡ take k (replicate n x ++ xs)
take-behind k zero x xs h = ap (λ m. take m xs) (let e : k - 0 ≡ k = omega arith in e)
take-behind zero (suc n) x xs h = absurd (omega arith)
take-behind (suc k) (suc n) x xs h = ap (λ m. x ∷ (replicate n x ++ take m xs)) (let e : suc k - suc n ≡ k - n = omega arith in e) ∙ ap (λ l. x ∷ l) (take-behind k n x xs (omega arith))

-- some of those that are alike come first
pub split-ahead : {X : Type 0} (k n : ℕ) (x : X) (xs : List X) → k ≤ n → replicate n x ++ xs ≡ replicate k x ++ (replicate (n - k) x ++ xs)
split-ahead zero n x xs h = ap (λ m. replicate m x ++ xs) (let e : n ≡ n - 0 = omega arith in e)
split-ahead (suc k) zero x xs h = absurd (omega arith)
split-ahead (suc k) (suc n) x xs h = ap (λ l. x ∷ l) (split-ahead k n x xs (omega arith)) ∙ ap (λ m. x ∷ (replicate k x ++ (replicate m x ++ xs))) (let e : n - k ≡ suc n - suc k = omega arith in e)

-- what was appended in two parts
pub appended_both : {X : Type 0} (old mid new : Option (List X)) (xs ys all : List X) → IfSome old (λ l. mid ≡ Some (l ++ xs)) → IfSome mid (λ l. new ≡ Some (l ++ ys)) → xs ++ ys ≡ all → IfSome old (λ l. new ≡ Some (l ++ all))
appended_both None mid new xs ys all a b e = tt
appended_both (Some l) mid new xs ys all a b e =
    let both : new ≡ Some ((l ++ xs) ++ ys) = subst (λ m. IfSome m (λ l. new ≡ Some (l ++ ys))) a b in
    both ∙ ap Some (append_assoc l xs ys) ∙ ap (λ t. Some (l ++ t)) e
