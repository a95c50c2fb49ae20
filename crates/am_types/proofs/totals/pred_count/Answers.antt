use Rattle.std.proofs.Common.{◌+◌, length, map, arith}
use Rattle.std.proofs.lemmas.List.Sums.{sum_by-take-le}
use Rattle.am_types.specs.Records.{Op}
use Rattle.am_types.proofs.PredCounts.{count_next}
use Rattle.am_types.proofs.totals.pred_count.Goals as goal

pub overflow_add-count : goal.overflow_add-count
overflow_add-count g c =
    let next = count_next g.O.ReadOp.op c.args.ops.now c.loop-op.op-index c.op-item.result c.loop-op-test.true c.op-item.is in
    let some = sum_by-take-le (λ (op : Op). length op.preds) (map g.O.ReadOp.op c.args.ops.now) (c.loop-op.op-index + 1) in
    omega (arith, next, some, c.pred_count.ensures, c.loop-op.invariant, c.requires)

pub loop-op-preserved : goal.loop-op-preserved
loop-op-preserved g c =
    let next = count_next g.O.ReadOp.op c.args.ops.now c.loop-op.op-index c.op-item.result c.loop-op-test.true c.op-item.is in
    omega (arith, next, c.pred_count.ensures, c.loop-op.invariant)
