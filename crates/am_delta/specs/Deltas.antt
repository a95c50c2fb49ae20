-- Values that a column writes as the difference of each from the one before it. (Automerge Binary Document Format, delta
-- encoding.)
--     sums_from sum differences          the values of the differences, from this sum on
--     JoinsDeltas bytes values           the bytes join runs of the differences of the values
--     SpellsDeltas bytes values          they do, or there are no bytes, and all values are null
--     CanonDeltas bytes values           the bytes are the one canonical spelling of the differences of the values
--     canonical_delta_bytes values       these bytes
--     stretch first difference count     so many values, each this difference above the one before it
--     AllBetween, AllFit, AreMiddling    limits of the values that aren't null
--     KeepsLast differences last         `last` is the last value that isn't null
use Rattle.std.specs.Prelude.{◌≡◌, ◌⊎◌, ℕ, List, [], ◌∷◌, map, Option, Some, None, Bool, true, false, ℤ, pos, neg_ℤ, ◌+ℤ◌, ◌-ℤ◌, ◌*ℤ◌, ◌≤ℤ◌, ◌<ℤ◌, ◌^◌, ◌-◌, replicate, IfSome, FitsSigned}
use Rattle.std.specs.Int.{w64}
use Rattle.std.specs.Option.{option_map}
use Rattle.std.specs.List.{AllByRecursion}
use Rattle.am_leb.specs.Leb.{leb}
use Rattle.am_runs.specs.Items.{signed_end}
use Rattle.am_runs.specs.Typed.{JoinsSigned, signed_numbers}
use Rattle.am_runs.specs.Canonical.{Canon, canonical_bytes}

-- each difference added to the sum before it; a null leaves the sum as it is
abbrev pub sums_from : ℤ → List (Option ℤ) → List (Option ℤ)
sums_from sum [] = []
sums_from sum (None ∷ list) = None ∷ sums_from sum list
sums_from sum (Some difference ∷ list) = Some (sum +ℤ difference) ∷ sums_from (sum +ℤ difference) list

-- the sum after one difference, k times
abbrev pub sum_after : ℤ → Option ℤ → ℕ → ℤ
sum_after sum None k = sum
sum_after sum (Some difference) k = sum +ℤ pos k *ℤ difference

-- The bytes join runs of differences, and the values are their sums.
abbrev pub JoinsDeltas : List ℕ → List (Option ℤ) → Type 0
JoinsDeltas bytes values = (differences : List (Option ℤ)) × JoinsSigned bytes differences × (values ≡ sums_from (pos 0) differences)

-- No bytes spell any number of nulls.
abbrev pub SpellsDeltas : List ℕ → List (Option ℤ) → Type 0
SpellsDeltas bytes values = ((bytes ≡ []) × AllByRecursion (λ value. value ≡ None) values) ⊎ JoinsDeltas bytes values

abbrev pub AllBetween : ℤ → ℤ → List (Option ℤ) → Type 0
AllBetween low high values = AllByRecursion (λ value. IfSome value (λ z. (low ≤ℤ z) × (z ≤ℤ high))) values

abbrev pub AllFit : List (Option ℤ) → Type 0
AllFit values = AllByRecursion (λ value. IfSome value (FitsSigned w64)) values

-- The bytes are the canonical spelling of the differences, and the values are their sums.
abbrev pub CanonDeltas : List ℕ → List (Option ℤ) → Type 0
CanonDeltas bytes values = (differences : List (Option ℤ)) × Canon signed_end bytes (map (option_map leb) differences) × (values ≡ sums_from (pos 0) differences)

-- each value less the last one before it that was not null
abbrev pub differences_from : ℤ → List (Option ℤ) → List (Option ℤ)
differences_from last [] = []
differences_from last (None ∷ values) = None ∷ differences_from last values
differences_from last (Some value ∷ values) = Some (value -ℤ last) ∷ differences_from value values

-- so many values, each this difference above the one before it; behind no value there are none
abbrev pub stretch : Option ℤ → Option ℤ → ℕ → List (Option ℤ)
stretch None difference count = replicate count None
stretch (Some first) difference count = Some first ∷ sums_from first (replicate (count - 1) difference)

-- ---- what a writer holds

-- the last value that isn't null
abbrev pub last_from : ℤ → List (Option ℤ) → ℤ
last_from last [] = last
last_from last (None ∷ values) = last_from last values
last_from last (Some value ∷ values) = last_from value values

-- above -2^62 and below 2^62, so that differences fit
abbrev pub IsMiddling : ℤ → Type 0
IsMiddling z = (neg_ℤ (pos (2 ^ 62)) <ℤ z) × (z <ℤ pos (2 ^ 62))

-- so many values behind these, each this difference above the one before it
abbrev pub steps : List (Option ℤ) → Option ℤ → ℕ → List (Option ℤ)
steps values difference count = sums_from (last_from (pos 0) values) (replicate count difference)

abbrev pub less : Option ℤ → ℤ → Option ℤ
less None last = None
less (Some value) last = Some (value -ℤ last)

abbrev pub or_last : Option ℤ → ℤ → ℤ
or_last None last = last
or_last (Some value) last = value

abbrev pub values_of : List (Option (List ℕ)) → List (Option ℤ)
values_of list = sums_from (pos 0) (signed_numbers list)

abbrev pub values_written : Bool → Option (List (Option (List ℕ))) → Option (List (Option ℤ))
values_written true list = None
values_written false list = option_map values_of list

-- stands, and is such
abbrev pub IfHeld : {A : Type 0} → Option A → (A → Type 0) → Type 0
IfHeld None P = ⊥
IfHeld (Some x) P = P x

abbrev pub IsSumming : Bool → Option (List (Option (List ℕ))) → ℤ → Type 0
IsSumming true list last = Unit {0}
IsSumming false list last = IsMiddling last × IfHeld list (λ l. (l ≡ map (option_map leb) (signed_numbers l)) × (last ≡ last_from (pos 0) (values_of l)))

abbrev pub AreMiddling : List (Option ℤ) → Type 0
AreMiddling values = AllByRecursion (λ value. IfSome value IsMiddling) values

abbrev pub canonical_delta_bytes : List (Option ℤ) → List ℕ
canonical_delta_bytes values = canonical_bytes (map (option_map leb) (differences_from (pos 0) values))

-- `last` is the last value that isn't null, or 0; a list that is spelled at once keeps it
abbrev pub KeepsLast : List (Option ℤ) → ℤ → Type 0
KeepsLast differences last = IsMiddling last × (last ≡ last_from (pos 0) (sums_from (pos 0) differences))
