-- Reading parts one after another, as functions of the bytes. What is read is believed by the words of Metadata and
-- Actors: `ColumnList::read` and `ActorList::read` say so.
use Rattle.std.specs.Prelude.{ℕ, zero, suc, List, [], ◌∷◌, take, drop, length, Option, Some, None, Result, Ok, Err, nat_le, if◌then◌else◌}
use Rattle.am_leb.specs.declared.fault.LebFault.{LebFault}
use Rattle.am_leb.specs.Reading.{first_unsigned}

abbrev pub number_by : List ℕ → Result (ℕ × ℕ) LebFault → Option (ℕ × List ℕ)
number_by bytes (Err fault) = None
number_by bytes (Ok found) = Some (found.0, drop found.1 bytes)

-- the number that stands first, and the bytes behind it
abbrev pub first_number : List ℕ → Option (ℕ × List ℕ)
first_number bytes = number_by bytes (first_unsigned bytes)

abbrev pub with_length : ℕ → Option (ℕ × List ℕ) → Option ((ℕ × ℕ) × List ℕ)
with_length specification None = None
with_length specification (Some found) = Some ((specification, found.0), found.1)

abbrev pub pair_by : Option (ℕ × List ℕ) → Option ((ℕ × ℕ) × List ℕ)
pair_by None = None
pair_by (Some found) = with_length found.0 (first_number found.1)

-- the specification and the length that stand first, and the bytes behind them
abbrev pub first_pair : List ℕ → Option ((ℕ × ℕ) × List ℕ)
first_pair bytes = pair_by (first_number bytes)

abbrev pub prefixed_by : Option (ℕ × List ℕ) → Option (List ℕ × List ℕ)
prefixed_by None = None
prefixed_by (Some found) = if nat_le found.0 (length found.1) then Some (take found.0 found.1, drop found.0 found.1) else None

-- the bytes that stand first behind their length, and the bytes behind them
abbrev pub first_prefixed : List ℕ → Option (List ℕ × List ℕ)
first_prefixed bytes = prefixed_by (first_number bytes)

abbrev pub read_on : {A : Type 0} → (List ℕ → List A) → Option (A × List ℕ) → List A
read_on more None = []
read_on more (Some found) = found.0 ∷ more found.1

-- the parts that stand first, so many
abbrev pub parts : {A : Type 0} → (List ℕ → Option (A × List ℕ)) → ℕ → List ℕ → List A
parts first zero bytes = []
parts first (suc count) bytes = read_on (parts first count) (first bytes)

abbrev pub go_on : {A : Type 0} → (List ℕ → Option (List ℕ)) → Option (A × List ℕ) → Option (List ℕ)
go_on more None = None
go_on more (Some found) = more found.1

-- the bytes behind so many parts, if all of them stand there
abbrev pub behind : {A : Type 0} → (List ℕ → Option (A × List ℕ)) → ℕ → List ℕ → Option (List ℕ)
behind first zero bytes = Some bytes
behind first (suc count) bytes = go_on (behind first count) (first bytes)

-- the bytes cut into columns of the listed lengths
abbrev pub cut : List (ℕ × ℕ) → List ℕ → List (ℕ × List ℕ)
cut [] bytes = []
cut (pair ∷ listed) bytes = (pair.0, take pair.1 bytes) ∷ cut listed (drop pair.1 bytes)
