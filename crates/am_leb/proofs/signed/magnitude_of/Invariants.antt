use Rattle.std.proofs.Common.{◌≡◌, drop}
use Rattle.am_leb.specs.Reading.{magnitude}
use Rattle.am_leb.proofs.signed.magnitude_of.Given as goal

abbrev pub invariant-loop-i : goal.invariant-loop-i
invariant-loop-i l = l.value ≡ magnitude l.negative (drop l.i l.spelling)
