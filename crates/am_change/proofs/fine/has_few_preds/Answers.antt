use Rattle.std.proofs.Common.{◌≡◌, ◌+◌, ◌-◌, ◌^◌, length, map, take, arith}
use Rattle.std.proofs.lemmas.List.Sums.{sum_by-take-le}
use Rattle.am_types.specs.declared.Op.{Op}
use Rattle.am_types.specs.Fine.{pred_count}
use Rattle.am_types.proofs.PredCounts.{count_next}
use Rattle.am_change.proofs.fine.has_few_preds.Goals as goal

pub returns-then-count-room : goal.returns-then-count-room
returns-then-count-room g c =
    let ops = map g.O.ReadOp.op c.args.ops.now in
    let next = count_next g.O.ReadOp.op c.args.ops.now c.loop-op.op-index c.op-item.result c.loop-op-test.true c.op-item.is in
    let some = sum_by-take-le (λ (o : Op). length o.preds) ops (c.loop-op.op-index + 1) in (
      λ e. absurd (cc),
      λ few. absurd (omega (arith, few, next, some, c.pred_count-count.ensures, c.if-count-room.true, c.loop-op.invariant)),
    )

pub loop-op-preserved : goal.loop-op-preserved
loop-op-preserved g c =
    let next = count_next g.O.ReadOp.op c.args.ops.now c.loop-op.op-index c.op-item.result c.loop-op-test.true c.op-item.is in
    let all : pred_count (take (c.loop-op.op-index + 1) (map g.O.ReadOp.op c.args.ops.now)) + (c.loop-op.room - c.pred_count-count.result) ≡ 2 ^ 22 =
    omega (arith, next, c.pred_count-count.ensures, c.if-count-room.false, c.loop-op.invariant) in
    all
