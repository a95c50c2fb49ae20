use Rattle.std.proofs.Common.{◌≡◌, ◌≤◌, ◌++◌, List}
use Rattle.am_types.specs.Operations.{Operation}
use Rattle.am_merge.specs.Naming.{AreTables}
use Rattle.am_merge.specs.Stops.{done_in, waiting_of}
use Rattle.am_merge.specs.Walk.{walk_out}
use Rattle.am_merge.proofs.stops.put_rest.Given as goal

abbrev pub invariant-rest : goal.invariant-rest
invariant-rest l = record {
  few : l.walk.skipped ≤ l.initial.walk.skipped;
  same : (A : List Operation) → AreTables A l.tables
      → done_in l.tables.named.items l.initial.walk ++ walk_out A l.initial.walk.left (waiting_of l.initial.walk)
      ≡ done_in l.tables.named.items l.walk ++ walk_out A l.walk.left (waiting_of l.walk);
}

abbrev pub decreases-rest : goal.decreases-rest
decreases-rest l = l.walk.left
