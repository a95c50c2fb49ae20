-- A list of values that is spelled at once, and what stands before a place of it.
--     spelled f values          the items of the values, one after another; a null has none
--     IsRunBefore f values place kind count front last     the items of the pending run stand before the place
--     Stands end f start bytes values place kind count     behind the start, the bytes and the pending run spell the values before the place
use Rattle.std.specs.Prelude.{◌≡◌, ℕ, List, [], ◌∷◌, ◌++◌, length, map, take, Option, Some, None}
use Rattle.std.specs.Option.{option_map}
use Rattle.std.specs.List.{flat_map}
use Rattle.am_runs.specs.declared.pending.PendingKind.{PendingKind}
use Rattle.am_runs.specs.declared.pending.PendingKind.TheVariants as pending
use Rattle.am_runs.specs.Pending.{Holds}

abbrev pub spelled : {V : Type 0} → (V → List ℕ) → List (Option V) → List ℕ
spelled f [] = []
spelled f (None ∷ values) = spelled f values
spelled f (Some v ∷ values) = f v ++ spelled f values

-- where the items of the pending run are read: of a repeat the last value, of a literal run so many values and that one
abbrev pub IsRunBefore : {V : Type 0} → (V → List ℕ) → List (Option V) → ℕ → PendingKind → ℕ → List ℕ → List ℕ → Type 0
IsRunBefore f values place pending.Nothing count front last = Unit {0}
IsRunBefore f values place pending.Nulls count front last = Unit {0}
IsRunBefore {V} f values place pending.Repeat count front last = (before : List (Option V)) × (v : V) × (take place values ≡ before ++ Some v ∷ []) × (last ≡ f v)
IsRunBefore {V} f values place pending.Literal count front last = (before : List (Option V)) × (xs : List V) × (v : V)
    × (take place values ≡ before ++ map Some (xs ++ v ∷ [])) × (length xs ≡ count) × (front ≡ flat_map f xs) × (last ≡ f v)

pub record Stands {V : Type 0} (end : List ℕ → Option ℕ) (f : V → List ℕ) (start bytes : List ℕ) (values : List (Option V)) (place : ℕ) (kind : PendingKind) (count : ℕ) : Type 0 where
  pub done : List ℕ
  pub front : List ℕ
  pub last : List ℕ
  pub is : bytes ≡ start ++ done
  pub run : IsRunBefore f values place kind count front last
  pub holds : Holds end done kind count front last (map (option_map f) (take place values))
