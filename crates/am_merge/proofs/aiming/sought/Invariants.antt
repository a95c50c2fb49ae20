use Rattle.std.proofs.Common.{◌-◌, ◌≤◌}
use Rattle.am_merge.proofs.aiming.sought.Given as goal

abbrev pub invariant-loop-steps : goal.invariant-loop-steps
invariant-loop-steps l = l.steps ≤ 12

abbrev pub decreases-loop-steps : goal.decreases-loop-steps
decreases-loop-steps l = 12 - l.steps
