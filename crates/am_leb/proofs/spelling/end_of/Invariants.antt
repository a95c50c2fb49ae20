use Rattle.am_leb.proofs.Ends.{AllHigh}
use Rattle.am_leb.proofs.spelling.end_of.Given as goal

abbrev pub invariant-loop-i : goal.invariant-loop-i
invariant-loop-i l = AllHigh l.bytes l.i
