-- Letters: texts of one ASCII byte.
--     letter b        the text of this byte
--     AreAscii bs     each of the bytes is below 128
use Rattle.std.specs.Prelude.{◌<◌, ℕ, List, [], ◌∷◌}
use Rattle.std.specs.List.{AllByRecursion}
use Rattle.am_types.specs.declared.RawValue.{RawValue}

abbrev pub letter : ℕ → RawValue
letter b = record { kind = 6; raw = b ∷ [] }

abbrev pub AreAscii : List ℕ → Type 0
AreAscii bs = AllByRecursion (λ b. b < 128) bs
