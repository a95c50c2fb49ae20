-- Actors that take as many bytes each.
--     AreEven size actors     unless size is 0, each of the actors takes so many bytes with its length
use Rattle.std.specs.Prelude.{◌≡◌, ℕ, ◌<◌, List, length}
use Rattle.std.specs.List.{AllByRecursion}
use Rattle.am_colmeta.specs.Actors.{prefixed}

abbrev pub AreEven : ℕ → List (List ℕ) → Type 0
AreEven size actors = 0 < size → AllByRecursion (λ actor. length (prefixed actor) ≡ size) actors
