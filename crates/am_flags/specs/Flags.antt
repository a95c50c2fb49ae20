-- Flags that a column writes as the lengths of blocks of equal ones, the first of falses. (Automerge Binary Document
-- Format, boolean encoding.)
--     JoinsFlags bytes flags         the bytes are the lengths of the blocks; only the first may be 0
--     SpellsFlags bytes flags        they are, or there are no bytes, and all flags are false
--     CanonFlags bytes flags         the lengths are those that a writer leaves
--     CanonMaybe bytes flags         the same, but falses alone are no bytes
--     canonical_bytes, canonical_maybe_bytes     these bytes
use Rattle.std.specs.Prelude.{◌≡◌, ℕ, ◌<◌, ◌≤◌, ◌^◌, List, [], ◌∷◌, ◌++◌, length, drop, Bool, true, false, not, replicate, suc, zero, ◌⊎◌, Result, Ok, Err}
use Rattle.std.specs.List.{flat_map, AllByRecursion}
use Rattle.am_leb.specs.Leb.{uleb}
use Rattle.am_leb.specs.Reading.{first_unsigned}
use Rattle.am_leb.specs.declared.LebFault.{LebFault}

-- blocks of equal flags, turn by turn
abbrev pub alternating : Bool → List ℕ → List Bool
alternating flag [] = []
alternating flag (count ∷ counts) = replicate count flag ++ alternating (not flag) counts

abbrev pub AreCounts : List ℕ → Type 0
AreCounts counts = AllByRecursion (λ count. (1 ≤ count) × (count < 2 ^ 64)) counts

-- Only the first count may be 0.
abbrev pub OnlyFirstEmpty : List ℕ → Type 0
OnlyFirstEmpty [] = Unit {0}
OnlyFirstEmpty (count ∷ counts) = (count < 2 ^ 64) × AreCounts counts

-- The bytes are the counts of the blocks, and the first block is of falses.
abbrev pub JoinsFlags : List ℕ → List Bool → Type 0
JoinsFlags bytes flags = (counts : List ℕ) × OnlyFirstEmpty counts × (bytes ≡ flat_map uleb counts) × (flags ≡ alternating false counts)

abbrev pub LastStands : List ℕ → Type 0
LastStands [] = Unit {0}
LastStands (count ∷ []) = 1 ≤ count
LastStands (count ∷ next ∷ counts) = LastStands (next ∷ counts)

-- The same, and the last count isn't 0; so no flags are no bytes.
abbrev pub CanonFlags : List ℕ → List Bool → Type 0
CanonFlags bytes flags = (counts : List ℕ) × OnlyFirstEmpty counts × LastStands counts × (bytes ≡ flat_map uleb counts) × (flags ≡ alternating false counts)

abbrev pub AreFalse : List Bool → Type 0
AreFalse flags = AllByRecursion (λ flag. flag ≡ false) flags

-- The same, but no bytes where all flags are false.
abbrev pub CanonMaybe : List ℕ → List Bool → Type 0
CanonMaybe bytes flags = (AreFalse flags × (bytes ≡ [])) ⊎ ((¬ AreFalse flags) × CanonFlags bytes flags)

-- No bytes spell any number of falses.
abbrev pub SpellsFlags : List ℕ → List Bool → Type 0
SpellsFlags bytes flags = (AreFalse flags × (bytes ≡ [])) ⊎ JoinsFlags bytes flags

-- ---- the counts of a list

abbrev pub one_more : List ℕ → List ℕ
one_more [] = 1 ∷ []
one_more (count ∷ counts) = suc count ∷ counts

-- behind an empty block where the flags differ
abbrev pub behind_turn : Bool → Bool → List ℕ → List ℕ
behind_turn true true counts = counts
behind_turn false false counts = counts
behind_turn true false counts = 0 ∷ counts
behind_turn false true counts = 0 ∷ counts

-- the counts of the flags, if the first block is of this flag
abbrev pub counts_from : Bool → List Bool → List ℕ
counts_from flag [] = []
counts_from flag (x ∷ flags) = behind_turn flag x (one_more (counts_from x flags))

-- the one canonical spelling
abbrev pub canonical_bytes : List Bool → List ℕ
canonical_bytes flags = flat_map uleb (counts_from false flags)

abbrev pub are_false : List Bool → Bool
are_false [] = true
are_false (true ∷ flags) = false
are_false (false ∷ flags) = are_false flags

abbrev pub chosen_bytes : Bool → List Bool → List ℕ
chosen_bytes true flags = []
chosen_bytes false flags = canonical_bytes flags

abbrev pub canonical_maybe_bytes : List Bool → List ℕ
canonical_maybe_bytes flags = chosen_bytes (are_false flags) flags

-- ---- what a cursor shows

abbrev pub count_first : (List ℕ → List ℕ) → List ℕ → Result (ℕ × ℕ) LebFault → List ℕ
count_first behind bytes (Err e) = []
count_first behind bytes (Ok x) = x.0 ∷ behind (drop x.1 bytes)

unfoldable pub counts_in : ℕ → List ℕ → List ℕ
counts_in zero bytes = []
counts_in (suc most) bytes = count_first (counts_in most) bytes (first_unsigned bytes)

-- the counts that the bytes spell
abbrev pub counts_of : List ℕ → List ℕ
counts_of bytes = counts_in (length bytes) bytes

-- so many of the flag, and then what the bytes spell
abbrev pub flags_at : Bool → ℕ → List ℕ → List Bool
flags_at flag count rest = replicate count flag ++ alternating (not flag) (counts_of rest)

abbrev pub SpellCounts : List ℕ → Type 0
SpellCounts bytes = (counts : List ℕ) × AreCounts counts × (bytes ≡ flat_map uleb counts)

-- ---- what a writer holds

abbrev pub turned : Bool → List ℕ → Bool
turned flag [] = flag
turned flag (count ∷ counts) = turned (not flag) counts

-- The finished counts, and those that are pending.
abbrev pub HoldsFlags : List ℕ → Bool → ℕ → List Bool → Type 0
HoldsFlags done flag count list = (before : List ℕ) × OnlyFirstEmpty before × (done ≡ flat_map uleb before) × (flag ≡ turned false before) × ((before ≡ []) ⊎ (1 ≤ count)) × (list ≡ alternating false before ++ replicate count flag)

abbrev pub flags_written : List ℕ → Bool → ℕ → List Bool
flags_written done flag count = alternating false (counts_of done) ++ replicate count flag

abbrev pub IsWriting : Bool → List ℕ → Bool → ℕ → Type 0
IsWriting true done flag count = Unit {0}
IsWriting false done flag count = HoldsFlags done flag count (flags_written done flag count) × (count ≤ 2 ^ 32)
