use Rattle.std.proofs.Common.{◌≡◌, ◌≤◌, ◌++◌, ℕ, List}
use Rattle.am_types.specs.Operations.{Operation}
use Rattle.am_types.specs.declared.Row.{Row}
use Rattle.am_merge.specs.Naming.{AreTables}
use Rattle.am_merge.specs.Plans.{Event}
use Rattle.am_merge.specs.Spots.{spot_in}
use Rattle.am_merge.specs.Stops.{done_in, waiting_of}
use Rattle.am_merge.specs.Walk.{spot_of_row, walk_into}
use Rattle.am_merge.proofs.stops.put_before.Given as goal

abbrev pub invariant-ahead : goal.invariant-ahead
invariant-ahead l = record {
  few : l.walk.skipped ≤ l.initial.walk.skipped;
  same : (A : List Operation) → AreTables A l.tables → (r : Row) → spot_of_row r ≡ spot_in l.row → (rest : ℕ → List Operation → List Event)
      → done_in l.tables.named.items l.initial.walk ++ walk_into A r rest l.initial.walk.left (waiting_of l.initial.walk)
      ≡ done_in l.tables.named.items l.walk ++ walk_into A r rest l.walk.left (waiting_of l.walk);
}

abbrev pub decreases-ahead : goal.decreases-ahead
decreases-ahead l = l.walk.left
