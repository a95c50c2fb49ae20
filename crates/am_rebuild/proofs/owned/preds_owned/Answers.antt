use Rattle.std.proofs.Common.{◌<◌, ◌++◌, ◌∷◌, ◌∙◌, [], length, sym, subst, arith}
use Rattle.std.proofs.lemmas.List.{take_more}
use Rattle.am_types.specs.declared.OpId.{OpId}
use Rattle.am_types.specs.Fine.{IsId}
use Rattle.am_rebuild.proofs.Shorts.{short_id}
use Rattle.am_rebuild.proofs.owned.preds_owned.Goals as goal

pub id_in-requires : goal.id_in-requires
id_in-requires g c =
    let d : OpId = record { counter = 0; actor = [] } in
    let l : c.loop-i.i < length (g.O.ReadOp.op c.args.op.now).preds = omega (arith, c.pred_count-i-end.ensures, c.loop-i-test.true) in
    short_id _ (subst IsId (sym (c.pred.ensures d)) (c.requires c.loop-i.i d l))

pub loop-i-preserved : goal.loop-i-preserved
loop-i-preserved g c =
    let d : OpId = record { counter = 0; actor = [] } in
    let l : c.loop-i.i < length (g.O.ReadOp.op c.args.op.now).preds = omega (arith, c.pred_count-i-end.ensures, c.loop-i-test.true) in
    c.in_ok-push.ensures.items ∙ (λ j. c.loop-i.invariant j ++ (c.in_ok-id_in.ensures ∙ c.pred.ensures d) j ∷ []) ∙ sym (take_more (g.O.ReadOp.op c.args.op.now).preds c.loop-i.i d l)
