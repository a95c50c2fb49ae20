use Rattle.std.proofs.Common.{length}
use Rattle.am_history_tests.proofs.chain.walked.Given as goal

abbrev pub decreases-loop-id : goal.decreases-loop-id
decreases-loop-id l = length l.walk
