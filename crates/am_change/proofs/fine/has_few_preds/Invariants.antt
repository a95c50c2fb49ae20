use Rattle.std.proofs.Common.{◌≡◌, ◌+◌, ◌^◌, map, take}
use Rattle.am_types.specs.Fine.{pred_count}
use Rattle.am_change.proofs.fine.has_few_preds.Given as goal

-- what is taken and what is left are the limit
abbrev pub invariant-loop-op : goal.invariant-loop-op
invariant-loop-op g l = pred_count (take l.op-index (map g.O.ReadOp.op l.ops)) + l.room ≡ 2 ^ 22
