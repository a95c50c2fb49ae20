-- Bytes that are compared many at once.
use Rattle.std.proofs.Common.{ℕ, ◌≡◌, ◌+◌, ◌*◌, List, [], ◌∷◌, length, Bool, true, false, not, refl, ap, ◌∙◌, arith}
use Rattle.std.specs.Prelude.{◌&&◌}
use Rattle.std.proofs.lemmas.Bool.Decides.{nat_tests}
use lib.Dec.{eqb}
use lib.Lanes.{mask_l, zip2}
use mathlib.Core.Bool.{cond}
use Rattle.am_types.specs.Same.{same_bytes}

one_more : (b : Bool) (k : ℕ) → eqb (cond (not b) 1 0 + 2 * k) 0 ≡ (b && eqb k 0)
one_more true k = grind (arith, nat_tests)
one_more false k = grind (arith, nat_tests)

-- none is marked as different where they are the same
pub unmarked : (xs ys : List ℕ) → length xs ≡ length ys → eqb (mask_l (zip2 (λ x y. not (eqb x y)) xs ys)) 0 ≡ same_bytes xs ys
unmarked [] [] e = refl
unmarked [] (y ∷ ys) e = absurd (omega arith)
unmarked (x ∷ xs) [] e = absurd (omega arith)
unmarked (x ∷ xs) (y ∷ ys) e =
    one_more (eqb x y) (mask_l (zip2 (λ x y. not (eqb x y)) xs ys))
    ∙ ap (λ t. eqb x y && t) (unmarked xs ys (omega arith))
