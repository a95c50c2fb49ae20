use Rattle.std.proofs.Common.{◌+◌, ◌≡◌, length}
use Rattle.am_leb.specs.Leb.{uleb}
use Rattle.am_leb.proofs.unsigned.unsigned_len.Given as goal

abbrev pub invariant-loop-rest : goal.invariant-loop-rest
invariant-loop-rest l = l.len + length (uleb l.rest) ≡ length (uleb l.n) + 1

abbrev pub decreases-loop-rest : goal.decreases-loop-rest
decreases-loop-rest l = l.rest
