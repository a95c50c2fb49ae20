-- How columns are judged: the first of four conditions decides.
use Rattle.std.specs.Prelude.{◌≡◌, ◌≢◌, ℕ, List, [], ◌∷◌, length, ◌⊎◌, Result, Ok, Err, IsBitSet, Contains}
use Rattle.std.specs.List.{AllByRecursion}
use Rattle.am_colmeta.specs.declared.fault.ColumnFault.{ColumnFault}
use Rattle.am_colmeta.specs.declared.fault.ColumnFault.TheVariants.{CompressedColumn, NotAscending, UnknownColumn, Width}
use Rattle.am_colmeta.specs.Metadata.{total, Ascend, listing, body}

-- Bit 3 says that the column is compressed by DEFLATE.
abbrev pub HasDeflate : ℕ × ℕ → Type 0
HasDeflate pair = IsBitSet pair.0 3

-- Some column is compressed.
abbrev pub AreCompressed : List (ℕ × ℕ) → Type 0
AreCompressed [] = ⊥
AreCompressed (pair ∷ listed) = HasDeflate pair ⊎ AreCompressed listed

-- Each specification is known.
abbrev pub AreKnown : List ℕ → List (ℕ × ℕ) → Type 0
AreKnown known listed = AllByRecursion (λ pair. Contains known pair.0) listed

-- The specification is the first that is not known.
abbrev pub IsFirstUnknown : List ℕ → List (ℕ × ℕ) → ℕ → Type 0
IsFirstUnknown known [] specification = ⊥
IsFirstUnknown known (pair ∷ listed) specification =
    ((¬ Contains known pair.0) × (pair.0 ≡ specification)) ⊎ (Contains known pair.0 × IsFirstUnknown known listed specification)

-- The columns are those that are listed, and their bytes join to the body.
pub record AreCut (listed : List (ℕ × ℕ)) (bytes : List ℕ) (columns : List (ℕ × List ℕ)) : Type 0 where
  pub listed_are : listing columns ≡ listed
  pub bytes_are : body columns ≡ bytes

-- The answer is the right one for the listed columns, the body and the known specifications.
abbrev pub Judges : List (ℕ × ℕ) → List ℕ → List ℕ → Result (List (ℕ × List ℕ)) ColumnFault → Type 0
Judges listed bytes known (Err CompressedColumn) = AreCompressed listed
Judges listed bytes known (Err NotAscending) = (¬ AreCompressed listed) × (¬ Ascend listed)
Judges listed bytes known (Err (UnknownColumn specification)) = (¬ AreCompressed listed) × Ascend listed × IsFirstUnknown known listed specification
Judges listed bytes known (Err Width) = (¬ AreCompressed listed) × Ascend listed × AreKnown known listed × (total listed ≢ length bytes)
Judges listed bytes known (Ok columns) = (¬ AreCompressed listed) × Ascend listed × AreKnown known listed × AreCut listed bytes columns
