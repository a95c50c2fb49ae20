use Rattle.std.proofs.Common.{◌≤◌, length}
use Rattle.am_flags.proofs.Counts.{CountedSoFar}
use Rattle.am_flags.proofs.count.total_of.Given as goal

abbrev pub invariant-loop-rest : goal.invariant-loop-rest
invariant-loop-rest l = CountedSoFar l.bytes l.rest l.total × (l.total ≤ l.most)

abbrev pub decreases-loop-rest : goal.decreases-loop-rest
decreases-loop-rest l = length l.rest
