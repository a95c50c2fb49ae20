use Rattle.std.proofs.Common.{length}
use Rattle.am_types.proofs.byte_strings.+same_few.Given as goal

abbrev pub decreases-same_few : goal.decreases-same_few
decreases-same_few l = length l.a.now
