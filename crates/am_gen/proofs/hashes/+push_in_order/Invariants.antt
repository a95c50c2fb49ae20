use Rattle.std.proofs.Common.{length}
use Rattle.am_gen.proofs.hashes.+push_in_order.Given as goal

abbrev pub decreases-push_in_order : goal.decreases-push_in_order
decreases-push_in_order l = length l.others.now
