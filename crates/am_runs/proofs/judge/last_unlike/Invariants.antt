use Rattle.std.proofs.Common.{◌≡◌}
use Rattle.am_runs.specs.Judging.{unlike_items}
use Rattle.am_runs.proofs.judge.last_unlike.Given as goal

abbrev pub invariant-loop-left : goal.invariant-loop-left
invariant-loop-left g l = unlike_items g.K.Item.end_of l.left l.item l.rest ≡ unlike_items g.K.Item.end_of l.count l.first l.bytes

abbrev pub decreases-loop-left : goal.decreases-loop-left
decreases-loop-left g l = l.left
