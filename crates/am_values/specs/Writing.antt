-- What a writer of values holds, and what it takes out of columns.
use Rattle.std.specs.Prelude.{◌≡◌, ℕ, ◌/◌, List, [], ◌∷◌, drop, Bool, true, false, Option, Some, None, unwrap_or}
use Rattle.am_leb.specs.Leb.{uleb}
use Rattle.std.specs.Option.{option_map}
use Rattle.am_types.specs.declared.RawValue.{RawValue}
use Rattle.am_runs.specs.Typed.{unsigned_numbers}
use Rattle.am_values.specs.Columns.{AllGood, spellings, joined}
use Rattle.am_values.specs.Cutting.{value_from}

-- the spelling of a number, of which a null is the number of the null value
abbrev pub spelled : Option ℕ → Option (List ℕ)
spelled number = Some (uleb (unwrap_or number 0))

-- the values of the numbers that are not null
abbrev pub values_in : List (Option ℕ) → List ℕ → List RawValue
values_in [] raw = []
values_in (None ∷ numbers) raw = values_in numbers raw
values_in (Some number ∷ numbers) raw = value_from number raw ∷ values_in numbers (drop (number / 16) raw)

-- the values of the entries that were pushed as numbers
abbrev pub shown : List ℕ → List (Option (List ℕ)) → List RawValue
shown raw entries = values_in (unsigned_numbers entries) raw

-- the values that were pushed, as long as memory was had
abbrev pub values_written : Bool → Option (List (Option (List ℕ))) → List ℕ → Option (List RawValue)
values_written true entries raw = None
values_written false entries raw = option_map (shown raw) entries

-- The entries and the raw bytes are those of good values.
abbrev pub AreOf : List RawValue → List (Option (List ℕ)) → List ℕ → Type 0
AreOf values entries raw = (entries ≡ spellings values) × (raw ≡ joined values) × AllGood values

abbrev pub IfHeld : {A : Type 0} → Option A → (A → Type 0) → Type 0
IfHeld None P = ⊥
IfHeld (Some x) P = P x

abbrev pub IsCollecting : Bool → Option (List (Option (List ℕ))) → List ℕ → Type 0
IsCollecting true entries raw = Unit {0}
IsCollecting false entries raw = IfHeld entries (λ list. AreOf (shown raw list) list raw)
