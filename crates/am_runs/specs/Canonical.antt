-- The one canonical spelling of a list. (Automerge Binary Document Format, "run length encoding": the longest runs, and
-- the shortest numbers.)
--     IsTight run           a repeat has at least two items, a literal run no two equal neighbours
--     MayFollow r s         the run s may stand behind r: the entries at the seam differ, and not both are literal
--     AreCanonical runs     each is tight, and each may follow the one before it
--     Canon end bytes list  the bytes are a canonical spelling of the list
--     canonical_bytes list  the canonical spelling
use Rattle.std.specs.Prelude.{◌≡◌, ◌≢◌, ℕ, ◌≤◌, List, [], ◌∷◌, Option, Some, None, Bool, true, false, suc, ◌⊎◌, if◌then◌else◌}
use Rattle.std.specs.List.{flat_map, AllByRecursion}
use Rattle.std.specs.Str.{bytes_eq}
use Rattle.am_runs.specs.Runs.{Run, Repeat, Literal, Nulls, expansion, bytes_of, IsRun}

abbrev pub NoEqualNeighbours : List (List ℕ) → Type 0
NoEqualNeighbours [] = Unit {0}
NoEqualNeighbours (x ∷ []) = Unit {0}
NoEqualNeighbours (x ∷ y ∷ items) = (x ≢ y) × NoEqualNeighbours (y ∷ items)

-- A repeat has at least two, and a literal run no two equal neighbours.
abbrev pub IsTight : Run → Type 0
IsTight (Repeat n item) = 2 ≤ n
IsTight (Literal items) = NoEqualNeighbours items
IsTight (Nulls k) = Unit {0}

abbrev pub first_of : List (List ℕ) → Option (List ℕ)
first_of [] = None
first_of (x ∷ items) = Some x

abbrev pub last_of : List (List ℕ) → Option (List ℕ)
last_of [] = None
last_of (x ∷ []) = Some x
last_of (x ∷ y ∷ items) = last_of (y ∷ items)

abbrev pub first_entry : Run → Option (List ℕ)
first_entry (Repeat n item) = Some item
first_entry (Literal items) = first_of items
first_entry (Nulls k) = None

abbrev pub last_entry : Run → Option (List ℕ)
last_entry (Repeat n item) = Some item
last_entry (Literal items) = last_of items
last_entry (Nulls k) = None

abbrev pub AreLiteral : Run → Run → Type 0
AreLiteral (Literal xs) (Literal ys) = Unit {0}
AreLiteral r s = ⊥

-- The entries at the seam differ, and no two literal runs stand in succession.
abbrev pub MayFollow : Run → Run → Type 0
MayFollow r s = (last_entry r ≢ first_entry s) × (¬ AreLiteral r s)

abbrev pub AreCanonical : List Run → Type 0
AreCanonical [] = Unit {0}
AreCanonical (r ∷ []) = IsTight r
AreCanonical (r ∷ s ∷ runs) = IsTight r × MayFollow r s × AreCanonical (s ∷ runs)

abbrev pub AreNulls : List (Option (List ℕ)) → Type 0
AreNulls list = AllByRecursion (λ entry. entry ≡ None) list

-- Nulls alone are no bytes. Any other list is spelled by runs in canonical order.
abbrev pub Canon : (List ℕ → Option ℕ) → List ℕ → List (Option (List ℕ)) → Type 0
Canon end bytes list = ((bytes ≡ []) × AreNulls list)
    ⊎ ((¬ AreNulls list) × ((runs : List Run) × AllByRecursion (IsRun end) runs × AreCanonical runs × (bytes ≡ flat_map bytes_of runs) × (list ≡ flat_map expansion runs)))

abbrev pub and_literal : List (List ℕ) → List Run → List Run
and_literal [] runs = runs
and_literal (x ∷ items) runs = Literal (x ∷ items) ∷ runs

abbrev pub item_first : List ℕ → List Run → List Run
item_first x [] = Literal (x ∷ []) ∷ []
item_first x (Repeat n y ∷ runs) = if bytes_eq x y then Repeat (suc n) y ∷ runs else Literal (x ∷ []) ∷ Repeat n y ∷ runs
item_first x (Literal [] ∷ runs) = Literal (x ∷ []) ∷ runs
item_first x (Literal (y ∷ ys) ∷ runs) = if bytes_eq x y then Repeat 2 y ∷ and_literal ys runs else Literal (x ∷ y ∷ ys) ∷ runs
item_first x (Nulls k ∷ runs) = Literal (x ∷ []) ∷ Nulls k ∷ runs

abbrev pub null_first : List Run → List Run
null_first [] = Nulls 1 ∷ []
null_first (Repeat n y ∷ runs) = Nulls 1 ∷ Repeat n y ∷ runs
null_first (Literal ys ∷ runs) = Nulls 1 ∷ Literal ys ∷ runs
null_first (Nulls k ∷ runs) = Nulls (suc k) ∷ runs

abbrev pub entry_first : Option (List ℕ) → List Run → List Run
entry_first None runs = null_first runs
entry_first (Some x) runs = item_first x runs

-- the entries in front of the runs
abbrev pub onto : List (Option (List ℕ)) → List Run → List Run
onto [] runs = runs
onto (entry ∷ list) runs = entry_first entry (onto list runs)

-- the runs of a list in canonical order
abbrev pub grouped : List (Option (List ℕ)) → List Run
grouped list = onto list []

abbrev pub are_nulls : List (Option (List ℕ)) → Bool
are_nulls [] = true
are_nulls (None ∷ list) = are_nulls list
are_nulls (Some x ∷ list) = false

-- the one canonical spelling of a list
abbrev pub canonical_bytes : List (Option (List ℕ)) → List ℕ
canonical_bytes list = if are_nulls list then [] else flat_map bytes_of (grouped list)
