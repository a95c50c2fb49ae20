-- Items that begin bytes, each unlike the one before it.
--     AreApart end before start count size last bytes rest     so many do: these and the last, and the rest is behind them
--     Took k from from' self self'     the next k entries were taken out of one list and put behind the other
use Rattle.std.specs.Prelude.{◌≡◌, ℕ, ◌+◌, List, [], ◌∷◌, ◌++◌, length, Option, Some, IfSome}
use Rattle.std.specs.List.{flat_map, AllByRecursion}
use Rattle.am_runs.specs.Items.{IsItem}
use Rattle.am_runs.specs.Canonical.{NoEqualNeighbours}

pub record AreApart (end : List ℕ → Option ℕ) (before : List ℕ) (start : List (List ℕ)) (count size : ℕ) (last bytes rest : List ℕ) : Type 0 where
  pub each : AllByRecursion (IsItem end) (start ++ last ∷ [])
  pub apart : NoEqualNeighbours (before ∷ (start ++ last ∷ []))
  pub count_is : count ≡ length start + 1
  pub size_is : size ≡ length (flat_map (λ item. item) start)
  pub bytes_are : bytes ≡ flat_map (λ item. item) start ++ (last ++ rest)

-- what was taken from the front of one list, so many entries, was put behind another, which may not stand
abbrev pub Took : {A : Type 0} → ℕ → List A → List A → Option (List A) → Option (List A) → Type 0
Took {A} k from from' self self' = (part : List A) × (length part ≡ k) × (from ≡ part ++ from') × IfSome self (λ list. self' ≡ Some (list ++ part))
