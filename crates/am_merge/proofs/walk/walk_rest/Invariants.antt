use Rattle.std.proofs.Common.{◌≡◌, ◌<◌, ◌+◌, ◌^◌, ◌++◌, List, length}
use Rattle.am_types.specs.Operations.{Operation}
use Rattle.am_merge.specs.Naming.{AreCounters, AreTables}
use Rattle.am_merge.specs.Stops.{done_in, waiting_of}
use Rattle.am_merge.specs.Walk.{walked}
use Rattle.am_merge.proofs.walk.walk_rest.Given as goal

abbrev pub invariant-rows : goal.invariant-rows
invariant-rows l = record {
  few : l.walk.skipped + length l.rest < 2 ^ 63;
  same : (A : List Operation) → AreTables A l.tables → AreCounters l.tables l.counters
      → done_in l.tables.named.items l.fn.walk ++ walked A l.fn.rest l.fn.walk.left (waiting_of l.fn.walk)
      ≡ done_in l.tables.named.items l.walk ++ walked A l.rest l.walk.left (waiting_of l.walk);
}

abbrev pub decreases-rows : goal.decreases-rows
decreases-rows l = length l.rest
