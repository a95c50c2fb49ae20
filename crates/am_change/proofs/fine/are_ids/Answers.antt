use Rattle.std.proofs.Common.{refl, sym, subst, arith}
use Rattle.std.proofs.lemmas.List.Elements.{All-get_or, AllWithin-none, AllWithin-more, AllWithin-upto, All-from_all_within}
use Rattle.am_types.specs.Fine.{IsId}
use Rattle.am_types.specs.Views.{id_of}
use Rattle.std.specs.Prelude.{length}
use Rattle.am_change.proofs.fine.are_ids.Goals as goal

pub loop-i-init : goal.loop-i-init
loop-i-init g c = AllWithin-none IsId (g.O.ReadOp.op c.args.op.now).preds 0

pub returns-then-not-is_id : goal.returns-then-not-is_id
returns-then-not-is_id g c =
    let id = id_of c.pred.result in (
      λ e. absurd (cc),
      λ all. absurd (cc (c.if-not-is_id.ensures.1 (subst IsId (sym (c.pred.ensures id)) (All-get_or IsId (g.O.ReadOp.op c.args.op.now).preds c.loop-i.i id (omega (arith, c.loop-i-test.true, c.pred_count-i-end.ensures)) all)))),
    )

pub loop-i-preserved : goal.loop-i-preserved
loop-i-preserved g c =
    AllWithin-more IsId (g.O.ReadOp.op c.args.op.now).preds 0 c.loop-i.i c.loop-i.invariant (λ d. subst IsId (c.pred.ensures d) (c.if-not-is_id.ensures.0 refl))

pub returns : goal.returns
returns g c =
    let ids = (g.O.ReadOp.op c.args.op.now).preds in (
      λ e. All-from_all_within IsId ids (AllWithin-upto IsId ids 0 c.loop-i.i (length ids) (omega (arith, c.loop-i-test.false, c.pred_count-i-end.ensures)) c.loop-i.invariant),
      λ all. refl,
    )
