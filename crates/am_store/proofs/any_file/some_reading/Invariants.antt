use Rattle.std.proofs.Common.{length}
use Rattle.am_store.proofs.AnyFile.{IsReadTo}
use Rattle.am_store.proofs.any_file.some_reading.Given as goal

abbrev pub invariant-chunks : goal.invariant-chunks
invariant-chunks l = IsReadTo l.fn.only_changes l.fn.bytes l.rest

abbrev pub decreases-chunks : goal.decreases-chunks
decreases-chunks l = length l.rest
