-- What stands at a place of a list, and behind it.
use Rattle.std.proofs.Common.{◌≡◌, ℕ, zero, suc, ◌+◌, List, [], ◌∷◌, drop, slice_get, Option, Some, None, false, is_some, IsTrue, IfSome, MatchOption, option_copied, Bor, refl, sym, ap, ◌∙◌, arith}
use Rattle.std.proofs.lemmas.Bool.{both_ways}

pub get_here : {X : Type 0} (xs ys : List X) (a : X) (k : ℕ) → drop k xs ≡ a ∷ ys → slice_get xs k ≡ Some a
get_here xs ys a zero d = ap (λ l. slice_get l 0) d
get_here [] ys a (suc k) d = cc
get_here (x ∷ xs) ys a (suc k) d = get_here xs ys a k d

pub get_behind : {X : Type 0} (xs ys : List X) (a : X) (k i j : ℕ) → i ≡ k + suc j → drop k xs ≡ a ∷ ys → slice_get xs i ≡ slice_get ys j
get_behind xs ys a zero i j e d = let f : i ≡ suc j = omega arith in ap (λ l. slice_get l i) d ∙ ap (slice_get (a ∷ ys)) f
get_behind [] ys a (suc k) i j e d = cc
get_behind (x ∷ xs) ys a (suc k) zero j e d = absurd (omega arith)
get_behind (x ∷ xs) ys a (suc k) (suc i) j e d = get_behind xs ys a k i j (omega arith) d

pub drop_behind : {X : Type 0} (xs ys : List X) (a : X) (k i j : ℕ) → i ≡ k + suc j → drop k xs ≡ a ∷ ys → drop i xs ≡ drop j ys
drop_behind xs ys a zero i j e d = let f : i ≡ suc j = omega arith in ap (λ l. drop i l) d ∙ ap (λ n. drop n (a ∷ ys)) f
drop_behind [] ys a (suc k) i j e d = cc
drop_behind (x ∷ xs) ys a (suc k) zero j e d = absurd (omega arith)
drop_behind (x ∷ xs) ys a (suc k) (suc i) j e d = drop_behind xs ys a k i j (omega arith) d

-- ---- what was found last, and what stands behind it

module _ {X : Type 0} (all : List X) where
  -- the place of what was found last
  pub found_here : (last : Option (Bor X)) (ys : List X) (k i : ℕ) → i ≡ k → IsTrue (is_some last) → IfSome last (λ b. drop k all ≡ b.now ∷ ys) → option_copied last ≡ slice_get all i
  found_here None ys k i e s h = absurd (both_ways false refl s)
  found_here (Some b) ys k i e s h = sym (ap (slice_get all) e ∙ get_here all ys b.now k h)

  -- a later place
  pub found_behind : (last found : Option (Bor X)) (ys more : List X) (k i j : ℕ) → i ≡ k + suc j → IsTrue (is_some last) → IfSome last (λ b. drop k all ≡ b.now ∷ ys)
      → MatchOption found (slice_get ys j ≡ None) (λ b. drop j ys ≡ b.now ∷ more) → MatchOption found (slice_get all i ≡ None) (λ b. drop i all ≡ b.now ∷ more)
  found_behind None found ys more k i j e s h m = absurd (both_ways false refl s)
  found_behind (Some b) None ys more k i j e s h m = get_behind all ys b.now k i j e h ∙ m
  found_behind (Some b) (Some f) ys more k i j e s h m = drop_behind all ys b.now k i j e h ∙ m

  -- what was found is at its place
  pub found_is : (found : Option (Bor X)) (more : List X) (i : ℕ) → MatchOption found (slice_get all i ≡ None) (λ b. drop i all ≡ b.now ∷ more) → option_copied found ≡ slice_get all i
  found_is None more i m = sym m
  found_is (Some f) more i m = sym (get_here all more f.now i m)
