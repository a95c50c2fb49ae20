use Rattle.std.proofs.Common.{◌≡◌, Some, take}
use Rattle.am_doc.proofs.columns.push_rows.Given as goal

abbrev pub invariant-loop-row : goal.invariant-loop-row
invariant-loop-row l = (l.writer.0 ≡ l.fn.writer.0) × (l.writer.1 ≡ Some (take l.row-index l.rows))
