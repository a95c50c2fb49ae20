-- Runs, and the lists that bytes spell by them. (Automerge Binary Document Format, "run length encoding".)
--     expansion run         its entries
--     bytes_of run          its bytes: the number of its entries, and what is repeated or listed
--     JoinsRuns end bytes list     the bytes join those of runs whose entries join to the list
--     Spells end bytes list        the same, or no bytes and nulls alone
--     BeginsRun end bytes n rest   a run of n entries begins the bytes, and the rest is behind it
use Rattle.std.specs.Prelude.{◌≡◌, ℕ, ◌<◌, ◌≤◌, ◌^◌, List, [], ◌++◌, length, Option, Some, None, pos, neg_ℤ, map, replicate, ◌⊎◌}
use Rattle.std.specs.List.{flat_map, AllByRecursion}
use Rattle.am_leb.specs.Leb.{leb, uleb}
use Rattle.am_runs.specs.Items.{IsItem}

pub data Run : Type 0 where
  Repeat : ℕ → List ℕ → Run
  Literal : List (List ℕ) → Run
  Nulls : ℕ → Run

abbrev pub expansion : Run → List (Option (List ℕ))
expansion (Repeat n item) = replicate n (Some item)
expansion (Literal items) = map Some items
expansion (Nulls k) = replicate k None

abbrev pub bytes_of : Run → List ℕ
bytes_of (Repeat n item) = leb (pos n) ++ item
bytes_of (Literal items) = leb (neg_ℤ (pos (length items))) ++ flat_map (λ item. item) items
bytes_of (Nulls k) = leb (pos 0) ++ uleb k

-- a run with a count of at least 1, which fits its number
abbrev pub IsRun : (List ℕ → Option ℕ) → Run → Type 0
IsRun end (Repeat n item) = (1 ≤ n) × (n < 2 ^ 63) × IsItem end item
IsRun end (Literal items) = (1 ≤ length items) × (length items ≤ 2 ^ 63) × AllByRecursion (IsItem end) items
IsRun end (Nulls k) = (1 ≤ k) × (k < 2 ^ 64)

-- The bytes join those of runs whose expansions join to the list.
abbrev pub JoinsRuns : (List ℕ → Option ℕ) → List ℕ → List (Option (List ℕ)) → Type 0
JoinsRuns end bytes list = (runs : List Run) × AllByRecursion (IsRun end) runs × (bytes ≡ flat_map bytes_of runs) × (list ≡ flat_map expansion runs)

-- no bytes spell any number of nulls
abbrev pub Spells : (List ℕ → Option ℕ) → List ℕ → List (Option (List ℕ)) → Type 0
Spells end bytes list = ((bytes ≡ []) × AllByRecursion (λ entry. entry ≡ None) list) ⊎ JoinsRuns end bytes list

-- The bytes begin with a run of so many entries, and the rest is behind it.
abbrev pub BeginsRun : (List ℕ → Option ℕ) → List ℕ → ℕ → List ℕ → Type 0
BeginsRun end bytes count rest = (run : Run) × IsRun end run × (bytes ≡ bytes_of run ++ rest) × (count ≡ length (expansion run))
