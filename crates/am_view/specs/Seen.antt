-- Which ids are covered.
--     everything id         every id is
--     seen_by clock id      the clock covers it; every id, where there is no clock
use Rattle.std.specs.Prelude.{ℕ, Bool, true, List, Option, None, Some}
use Rattle.am_types.specs.declared.OpId.{OpId}
use Rattle.am_graph.specs.declared.reach.Reach.{Reach}
use Rattle.am_graph.specs.Clocks.{covers}

abbrev pub everything : OpId → Bool
everything id = true

abbrev pub seen_by : Option (List (List ℕ × Reach)) → OpId → Bool
seen_by None = everything
seen_by (Some clock) = covers clock
