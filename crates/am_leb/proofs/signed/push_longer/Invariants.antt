use Rattle.std.proofs.Common.{◌≡◌, ◌++◌, ◌+◌, length, take}
use Rattle.am_leb.specs.Leb.{leb}
use Rattle.am_leb.specs.Reading.{from_magnitude}
use Rattle.am_leb.proofs.signed.push_longer.Given as goal

abbrev pub invariant-loop-rest : goal.invariant-loop-rest
invariant-loop-rest l = (length l.spelling ≡ 10) × (take l.len l.spelling ++ leb (from_magnitude l.negative l.rest) ≡ leb (from_magnitude l.negative l.magnitude)) × (l.len + length (leb (from_magnitude l.negative l.rest)) ≡ length (leb (from_magnitude l.negative l.magnitude)))

abbrev pub decreases-loop-rest : goal.decreases-loop-rest
decreases-loop-rest l = l.rest
