use Rattle.std.proofs.Common.{◌≡◌}
use Rattle.am_runs.specs.Walking.{behind_items}
use Rattle.am_runs.proofs.run.behind.Given as goal

abbrev pub invariant-loop-left : goal.invariant-loop-left
invariant-loop-left g l = behind_items g.K.Item.end_of l.left l.rest ≡ behind_items g.K.Item.end_of l.count l.bytes

abbrev pub decreases-loop-left : goal.decreases-loop-left
decreases-loop-left g l = l.left
