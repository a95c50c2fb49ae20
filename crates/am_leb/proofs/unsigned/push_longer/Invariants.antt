use Rattle.std.proofs.Common.{◌≡◌, ◌++◌, ◌+◌, length, take}
use Rattle.am_leb.specs.Leb.{uleb}
use Rattle.am_leb.proofs.unsigned.push_longer.Given as goal

abbrev pub invariant-loop-rest : goal.invariant-loop-rest
invariant-loop-rest l = (length l.spelling ≡ 10) × (take l.len l.spelling ++ uleb l.rest ≡ uleb l.n) × (l.len + length (uleb l.rest) ≡ length (uleb l.n))

abbrev pub decreases-loop-rest : goal.decreases-loop-rest
decreases-loop-rest l = l.rest
