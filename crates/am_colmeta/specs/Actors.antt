-- Lists of actors, as chunks hold them.
use Rattle.std.specs.Prelude.{ℕ, ◌^◌, ◌<◌, List, ◌++◌, length}
use Rattle.std.specs.List.{flat_map, AllByRecursion}
use Rattle.am_leb.specs.Leb.{uleb}

-- the bytes behind their length
abbrev pub prefixed : List ℕ → List ℕ
prefixed bytes = uleb (length bytes) ++ bytes

-- the number of actors, and then each behind its length
abbrev pub actors_bytes : List (List ℕ) → List ℕ
actors_bytes actors = uleb (length actors) ++ flat_map prefixed actors

-- their number and their lengths fit 64 bits
abbrev pub IsPrefixed : List ℕ → Type 0
IsPrefixed bytes = length bytes < 2 ^ 64

abbrev pub AreActors : List (List ℕ) → Type 0
AreActors actors = (length actors < 2 ^ 64) × AllByRecursion IsPrefixed actors
