-- The state of a writer of columns, and what it writes of a column.
use Rattle.std.specs.Prelude.{◌≡◌, ℕ, ◌<◌, List, [], length, Bool, true, false, Option, Some, None, nat_lt, if◌then◌else◌}
use Rattle.std.specs.List.{AllByRecursion}
use Rattle.am_colmeta.specs.Metadata.{pair_bytes, total, Ascend, IsPair}
use Rattle.am_colmeta.specs.Reading.{cut}

-- The specification is above those of the columns.
abbrev pub IsAbove : ℕ → List (ℕ × List ℕ) → Type 0
IsAbove specification columns = AllByRecursion (λ column. column.0 < specification) columns

abbrev pub has_length : ℕ × ℕ → Bool
has_length pair = nat_lt 0 pair.1

-- what the metadata have of a column: nothing where it is empty
abbrev pub entry_bytes : ℕ × ℕ → List ℕ
entry_bytes pair = if has_length pair then pair_bytes pair else []

-- the columns that were pushed, as long as memory was had
abbrev pub columns_written : Bool → List (ℕ × ℕ) → List ℕ → Option (List (ℕ × List ℕ))
columns_written true listed bytes = None
columns_written false listed bytes = Some (cut listed bytes)

-- The lengths are those of the bytes, the specifications ascend, and the numbers fit 64 bits.
abbrev pub IsCollecting : Bool → List (ℕ × ℕ) → List ℕ → Type 0
IsCollecting true listed bytes = Unit {0}
IsCollecting false listed bytes = (total listed ≡ length bytes) × Ascend listed × AllByRecursion IsPair listed
