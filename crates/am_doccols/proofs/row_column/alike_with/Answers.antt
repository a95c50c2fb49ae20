use Rattle.std.proofs.Common.{arith, sym}
use Rattle.am_doccols.proofs.ColumnRuns.{like_next}
use Rattle.am_doccols.proofs.row_column.alike_with.Goals as goal

pub loop-n-preserved : goal.loop-n-preserved
loop-n-preserved g c = record {
  few = omega (arith, c.loop-n-test.true);
  alike = λ actors. like_next (g.C.RowColumn.cell actors) c.args.rows.now c.loop-n.n _ (g.C.RowColumn.cell actors c.args.first.now) c.loop-n-test.true c.index-rows-n.is (sym (c.alike.ensures actors c.if-not-alike.false)) (c.loop-n.invariant.alike actors);
}
