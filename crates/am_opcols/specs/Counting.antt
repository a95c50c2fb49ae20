-- A writer, and what is counted that comes behind what it has.
--     Counts xs w last n     the writer has all of xs but the last n, which are equal to `last`
use Rattle.std.specs.Prelude.{◌≡◌, ℕ, List, ◌++◌, replicate, Option}
use Rattle.am_fields.specs.Writing.{IfHeld}

abbrev pub Counts : {A : Type 0} → List A → Option (List A) → A → ℕ → Type 0
Counts xs w last n = IfHeld w (λ ys. ys ++ replicate n last ≡ xs)
