use Rattle.std.proofs.Common.{◌∷◌, ◌++◌, [], List, Option, ℤ, map, take, append_assoc, arith, sym, ap, ◌∙◌}
use Rattle.am_types.specs.Views.{id_of}
use Rattle.am_fields.specs.Layout.{id_counter}
use Rattle.am_opcols.proofs.WriteLaws.{id_fine, id_next}
use Rattle.am_opcols.proofs.columns.push_counters.Goals as goal

pub counter_in-requires : goal.counter_in-requires
counter_in-requires g c =
    id_fine (g.O.ReadOp.op c.args.op.now).preds c.loop-i.i (id_of c.pred.result) (omega (arith, c.loop-i-test.true, c.pred_count-i-end.ensures)) (c.pred.ensures (id_of c.pred.result)) c.requires.preds

pub loop-i-preserved : goal.loop-i-preserved
loop-i-preserved g c =
    let ids = (g.O.ReadOp.op c.args.op.now).preds in
    let before = c.args.room.now in
    let done = map id_counter (take c.loop-i.i ids) in
    let id = id_of c.pred.result in
    c.in_ok-push.ensures.ok
    ∙ ap (λ (zs : List (Option ℤ)). zs ++ c.counter_in.result ∷ []) c.loop-i.invariant
    ∙ append_assoc before done (c.counter_in.result ∷ [])
    ∙ ap (λ (z : Option ℤ). before ++ (done ++ z ∷ [])) c.counter_in.ensures.value
    ∙ ap (λ (zs : List (Option ℤ)). before ++ zs) (sym (id_next id_counter ids c.loop-i.i id (omega (arith, c.loop-i-test.true, c.pred_count-i-end.ensures)) (c.pred.ensures id)))
