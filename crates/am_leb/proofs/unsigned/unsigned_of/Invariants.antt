use Rattle.std.proofs.Common.{◌≡◌, drop}
use Rattle.am_leb.specs.Leb.{unsigned_value}
use Rattle.am_leb.proofs.unsigned.unsigned_of.Given as goal

abbrev pub invariant-loop-i : goal.invariant-loop-i
invariant-loop-i l = l.value ≡ unsigned_value (drop l.i l.spelling)
