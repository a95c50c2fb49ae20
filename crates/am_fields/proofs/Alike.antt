-- Rows that are alike, in columns that are read together.
use Rattle.std.proofs.Common.{◌≡◌, ◌≤◌, ℕ, zero, suc, List, [], ◌∷◌, ◌++◌, length, take, drop, replicate, Option, Some, None, refl, sym, ap, subst, ◌∙◌, arith}
use Rattle.std.specs.Prelude.{IsSome}
use Rattle.std.proofs.lemmas.List.{take-append-drop}
use Rattle.am_fields.specs.Reading.{readings, AllRead}
use Rattle.std.specs.List.{cons_option}

pub take_alike : {A : Type 0} (k n : ℕ) (x : A) (xs : List A) → k ≤ n → take k (replicate n x ++ xs) ≡ replicate k x
take_alike zero n x xs few = refl
take_alike (suc k) zero x xs few = absurd (omega (arith, few))
take_alike (suc k) (suc n) x xs few = ap (λ l. x ∷ l) (take_alike k n x xs (omega (arith, few)))

pub rows_alike : {A B C : Type 0} (read : A → B → Option C) (x : A) (y : B) (c : C) → read x y ≡ Some c → (k : ℕ) (xs : List A) (ys : List B) → take k xs ≡ replicate k x → take k ys ≡ replicate k y → readings read xs ys ≡ replicate k c ++ readings read (drop k xs) (drop k ys)
rows_alike read x y c is zero xs ys p q = refl
rows_alike read x y c is (suc k) [] ys p q = absurd (cc)
rows_alike read x y c is (suc k) (a ∷ xs) [] p q = absurd (cc)
rows_alike read x y c is (suc k) (a ∷ xs) (b ∷ ys) p q =
    let first : a ≡ x = cc in
    let second : b ≡ y = cc in
    let left : take k xs ≡ replicate k x = cc in
    let right : take k ys ≡ replicate k y = cc in
    ap (λ o. cons_option o (readings read xs ys)) (ap (λ u. read u b) first ∙ ap (read x) second ∙ is)
    ∙ ap (λ l. c ∷ l) (rows_alike read x y c is k xs ys left right)

-- the first row of two columns that begin with runs is read
pub first_read : {A B C : Type 0} (read : A → B → Option C) (n m : ℕ) (x : A) (y : B) (xs' : List A) (ys' : List B) (xs : List A) (ys : List B) → xs ≡ replicate n x ++ xs' → ys ≡ replicate m y ++ ys' → 1 ≤ n → 1 ≤ m → AllRead read xs ys → IsSome (read x y)
first_read read zero m x y xs' ys' xs ys p q some more all = absurd (omega (arith, some))
first_read read (suc n) zero x y xs' ys' xs ys p q some more all = absurd (omega (arith, more))
first_read read (suc n) (suc m) x y xs' ys' xs ys p q some more all = (subst (AllRead read (replicate (suc n) x ++ xs')) q (subst (λ l. AllRead read l ys) p all)).0

pub not_none : (A : Type 0) → IsSome {T = A} None → ⊥
not_none A some = absurd (cc)

pub length_alike : {A : Type 0} (k : ℕ) (x : A) (more xs : List A) → xs ≡ replicate k x ++ more → k ≤ length xs
length_alike zero x more xs p = omega arith
length_alike (suc k) x more [] p = absurd (cc)
length_alike (suc k) x more (y ∷ xs) p = let behind : xs ≡ replicate k x ++ more = cc in let rest = length_alike k x more xs behind in omega (arith, rest)

-- those alike are in front of what is behind them, where they are passed
pub alike_before : {A : Type 0} (k : ℕ) (x : A) (old same new : List A) → take k old ≡ replicate k x → same ≡ old → new ≡ drop k same → old ≡ replicate k x ++ new
alike_before k x old same new p q r = sym (take-append-drop k old) ∙ ap (λ l. l ++ drop k old) p ∙ ap (λ l. replicate k x ++ l) (sym (r ∙ ap (drop k) q))
