use Rattle.std.proofs.Common.{◌≡◌, Some, take}
use Rattle.am_fields.proofs.column_text.columns_of.Given as goal

abbrev pub invariant-loop-column : goal.invariant-loop-column
invariant-loop-column l = l.writer ≡ Some (take l.column-index l.columns)
