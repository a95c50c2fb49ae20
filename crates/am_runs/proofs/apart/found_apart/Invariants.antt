use Rattle.std.proofs.Common.{◌≤◌, ◌+◌, ℕ, List}
use Rattle.am_runs.specs.Apart.{AreApart}
use Rattle.am_runs.proofs.apart.found_apart.Given as goal

abbrev pub invariant-loop-left : goal.invariant-loop-left
invariant-loop-left g l = record {
  few : l.found.count + l.left ≤ l.most;
  are : (start : List (List ℕ)) × AreApart g.K.Item.end_of l.before start l.found.count l.found.size l.found.last.now l.bytes l.found.rest.now;
}

abbrev pub decreases-loop-left : goal.decreases-loop-left
decreases-loop-left g l = l.left
