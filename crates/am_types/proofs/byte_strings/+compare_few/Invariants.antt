use Rattle.std.proofs.Common.{length}
use Rattle.am_types.proofs.byte_strings.+compare_few.Given as goal

abbrev pub decreases-compare_few : goal.decreases-compare_few
decreases-compare_few l = length l.a.now
