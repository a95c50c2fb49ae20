use Rattle.std.proofs.Common.{take}
use Rattle.am_fields.proofs.WriteLaws.{held}
use Rattle.am_fields.proofs.AboveLaws.{above_next}
use Rattle.am_fields.proofs.column_text.columns_of.Goals as goal

pub push-requires : goal.push-requires
push-requires c = held c.loop-column.writer (take c.loop-column.column-index c.args.columns.now) _ c.loop-column.invariant (above_next c.args.columns.now c.loop-column.column-index c.column-item.result c.requires c.loop-column-test.true c.column-item.is)
