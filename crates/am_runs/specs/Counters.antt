-- What a cursor of numbers holds: copies of an entry, items of a literal run, and the bytes behind.
use Rattle.std.specs.Prelude.{ℕ, ◌+◌, ◌<◌, ◌^◌, List, [], ◌++◌, Option, map, replicate}
use Rattle.std.specs.Option.{option_map}
use Rattle.am_runs.specs.declared.place.Kind.TheVariants.{Literal}
use Rattle.am_runs.specs.Walking.{Place, entries, HasEntries}
use Rattle.am_runs.specs.Typed.{AllItems}

-- So many items of a literal run begin the bytes.
abbrev pub in_literal : ℕ → List ℕ → Place
in_literal n bytes = record { kind = Literal; count = n; item = []; rest = bytes }

-- the items of the literal run, and behind it so many entries
abbrev pub entries_from : (List ℕ → Option ℕ) → ℕ → ℕ → List ℕ → List (Option (List ℕ))
entries_from end literal left rest = entries end (literal + left) (in_literal literal rest)

-- the numbers that are left
abbrev pub counted : {A : Type 0} → (List ℕ → A) → ℕ → Option A → List (Option (List ℕ)) → List (Option A)
counted f copies value list = replicate copies value ++ map (option_map f) list

pub record IsCounted (end : List ℕ → Option ℕ) (copies literal left : ℕ) (rest : List ℕ) : Type 0 where
  pub holds : HasEntries end (literal + left) (in_literal literal rest)
  pub items : AllItems end (entries_from end literal left rest)
  pub fits : copies + (literal + left) < 2 ^ 64
