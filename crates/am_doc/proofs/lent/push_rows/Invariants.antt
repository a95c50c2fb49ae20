use Rattle.std.proofs.Common.{◌≡◌, Some, take}
use Rattle.am_doc.proofs.lent.push_rows.Given as goal

abbrev pub invariant-loop-i : goal.invariant-loop-i
invariant-loop-i l = (l.writer.0 ≡ l.fn.writer.0) × (l.writer.1 ≡ Some (take l.i l.rows))
