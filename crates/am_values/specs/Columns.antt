-- Columns of values (Automerge Binary Document Format, "Value Metadata" and "Value"): one column of numbers, which say
-- the kind and the length of each value, and one column of the bytes of all values.
--
--     HasNumber kind                   values of the kind have a number
--     metadata value                   the number that tells the kind and the length of a value
--     given values                     the values, of which a null reads as the null value
--     NoneNull items                   no item is null
--     JoinsValues numbers raw values   the two columns spell the values, in any way of runs
--     CanonValues numbers raw values   the two columns are the canonical ones of the values
--     canonical_numbers values, joined values     those columns
use Rattle.std.specs.Prelude.{◌≡◌, ℕ, ◌+◌, ◌*◌, ◌⊎◌, List, [], length, map, Option, Some, None, IsSome, IfSome, unwrap_or}
use Rattle.std.specs.Option.{option_map}
use Rattle.std.specs.List.{flat_map, AllByRecursion}
use Rattle.am_leb.specs.Leb.{uleb}
use Rattle.am_types.specs.declared.RawValue.{RawValue}
use Rattle.am_types.specs.Values.{Good}
use Rattle.am_runs.specs.Items.{unsigned_end}
use Rattle.am_runs.specs.Typed.{JoinsUnsigned}
use Rattle.am_runs.specs.Canonical.{Canon, canonical_bytes}

-- the kinds of values that have a number: unsigned and signed numbers, counters and timestamps
abbrev pub HasNumber : ℕ → Type 0
HasNumber kind = (kind ≡ 3) ⊎ (kind ≡ 4) ⊎ (kind ≡ 8) ⊎ (kind ≡ 9)

-- The low four bits are the kind, and the rest is the length.
abbrev pub metadata : RawValue → ℕ
metadata value = value.kind + 16 * length value.raw

-- the value of kind null, which has no bytes
abbrev pub null_value : RawValue
null_value = record { kind = 0; raw = [] }

-- the values, of which a null reads as the null value
abbrev pub given : List (Option RawValue) → List RawValue
given values = map (λ value. unwrap_or value null_value) values

-- no item is null
abbrev pub NoneNull : {A : Type 0} → List (Option A) → Type 0
NoneNull items = AllByRecursion (λ item. IsSome item) items

-- a null has no bytes
abbrev pub raw_of : Option RawValue → List ℕ
raw_of None = []
raw_of (Some value) = value.raw

-- Each is null or a good value.
abbrev pub AreGood : List (Option RawValue) → Type 0
AreGood values = AllByRecursion (λ value. IfSome value Good) values

-- The numbers tell the kind and the length of each value, and the raw bytes join. A null is null among the numbers.
pub record JoinsValues (numbers raw : List ℕ) (values : List (Option RawValue)) : Type 0 where
  pub numbers_are : JoinsUnsigned numbers (map (option_map metadata) values)
  pub raw_are : raw ≡ flat_map raw_of values
  pub good : AreGood values

abbrev pub AllGood : List RawValue → Type 0
AllGood values = AllByRecursion Good values

-- the spellings of the numbers of values
abbrev pub spellings : List RawValue → List (Option (List ℕ))
spellings values = map {B = Option (List ℕ)} (λ value. Some (uleb (metadata value))) values

-- the raw bytes of values, one after another
abbrev pub joined : List RawValue → List ℕ
joined values = flat_map (λ value. value.raw) values

-- The numbers are in their canonical runs, and the raw bytes join.
pub record CanonValues (numbers raw : List ℕ) (values : List RawValue) : Type 0 where
  pub numbers_are : Canon unsigned_end numbers (spellings values)
  pub raw_are : raw ≡ joined values
  pub good : AllGood values

-- the numbers of values in their canonical runs
abbrev pub canonical_numbers : List RawValue → List ℕ
canonical_numbers values = canonical_bytes (spellings values)
