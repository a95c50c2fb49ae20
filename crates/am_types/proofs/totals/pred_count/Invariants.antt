use Rattle.std.proofs.Common.{◌≡◌, map, take}
use Rattle.am_types.specs.Fine.{pred_count}
use Rattle.am_types.proofs.totals.pred_count.Given as goal

abbrev pub invariant-loop-op : goal.invariant-loop-op
invariant-loop-op g l = l.count ≡ pred_count (take l.op-index (map g.O.ReadOp.op l.ops))
