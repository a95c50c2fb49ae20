use Rattle.std.proofs.Common.{◌≡◌, take}
use Rattle.am_rows.proofs.rows.rows_copied.Given as goal

abbrev pub invariant-loop-i : goal.invariant-loop-i
invariant-loop-i l = l.rows ≡ take l.i l.lent
