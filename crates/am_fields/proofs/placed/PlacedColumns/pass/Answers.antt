use Rattle.std.proofs.Common.{sym, ◌∙◌, arith}
use Rattle.am_fields.proofs.Lists.{drop_next}
use Rattle.am_fields.proofs.placed.PlacedColumns.pass.Goals as goal

pub loop-passed-preserved : goal.loop-passed-preserved
loop-passed-preserved g c = (
  omega (arith, c.loop-passed-test.true),
  drop_next c.loop-passed._passed c.args.self.now c.next-item.new.self (g.B.Beside.item_of c.next-item.result) (sym c.loop-passed.invariant.1 ∙ c.next-item.ensures),
)
