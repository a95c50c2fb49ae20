use Rattle.std.proofs.Common.{refl, arith}
use Rattle.am_types.specs.Views.{id_of}
use Rattle.am_change.proofs.OneByOne.{at_pair, pair_next}
use Rattle.am_change.proofs.fine.ids_ascend.Goals as goal

pub loop-i-init : goal.loop-i-init
loop-i-init g c = record { some = omega arith; up = λ k d l. absurd (omega arith) }

pub returns-then-not-is_below : goal.returns-then-not-is_below
returns-then-not-is_below g c = (
  λ e. absurd (cc),
  λ up. absurd (cc (c.if-not-is_below.ensures.1 (at_pair (g.O.ReadOp.op c.args.op.now).preds c.loop-i.i (id_of c.pred.result) (id_of c.pred-in-loop-i.result) (omega (arith, c.loop-i.invariant.some)) (omega (arith, c.loop-i-test.true, c.pred_count-i-end.ensures)) c.pred.ensures c.pred-in-loop-i.ensures up))),
)

pub loop-i-preserved : goal.loop-i-preserved
loop-i-preserved g c = record {
  some = omega (arith, c.loop-i.invariant.some);
  up = pair_next (g.O.ReadOp.op c.args.op.now).preds c.loop-i.i (id_of c.pred.result) (id_of c.pred-in-loop-i.result) (omega (arith, c.loop-i.invariant.some)) c.pred.ensures c.pred-in-loop-i.ensures (c.if-not-is_below.ensures.0 refl) c.loop-i.invariant.up;
}

pub returns : goal.returns
returns g c = (
  λ e k d l. c.loop-i.invariant.up k d (omega (arith, c.loop-i-test.false, c.pred_count-i-end.ensures)),
  λ up. refl,
)
