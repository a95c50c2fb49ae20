use Rattle.std.proofs.Common.{sym}
use Rattle.am_fields.proofs.Filled.{filled_full}
use Rattle.am_fields.proofs.filled_column.FilledColumn.of.Goals as goal

pub invariant_of-result : goal.invariant_of-result
invariant_of-result g c = λ some. sym c.left.ensures

pub returns : goal.returns
returns g c = filled_full g.C.Spelled.blank c.left.result (g.C.Spelled.items c.args.cursor) (sym c.left.ensures)
