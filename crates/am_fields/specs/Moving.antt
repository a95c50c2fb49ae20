-- Places in one list of actors, as places in another.
--     moved known actors place      where the actor at this place of the known ones stands among the actors
use Rattle.std.specs.Prelude.{ℕ, List, Option, option_map, option_and_then, slice_get}
use Rattle.am_fields.specs.Columns.{place_of}

abbrev pub moved : List (List ℕ) → List (List ℕ) → Option ℕ → Option ℕ
moved known actors place = option_map (place_of actors) (option_and_then (slice_get known) place)
