use Rattle.std.proofs.Common.{◌∷◌, ◌++◌, [], ℕ, List, Option, Some, map, option_map, take, append_assoc, arith, sym, ap, ◌∙◌}
use Rattle.am_types.specs.Views.{id_of}
use Rattle.am_fields.specs.Columns.{place_of}
use Rattle.am_fields.specs.Layout.{id_actor}
use Rattle.am_opcols.proofs.WriteLaws.{id_next2}
use Rattle.am_opcols.proofs.columns.push_places.Goals as goal

pub loop-i-preserved : goal.loop-i-preserved
loop-i-preserved g c =
    let place = option_map (place_of c.args.actors.now) in
    let ids = (g.O.ReadOp.op c.args.op.now).preds in
    let before = c.args.room.now.items in
    let done = map place (map id_actor (take c.loop-i.i ids)) in
    let id = id_of c.pred.result in
    c.in_ok-push.ensures.items
    ∙ ap (λ (zs : List (Option ℕ)). zs ++ Some c.place.result ∷ []) c.loop-i.invariant
    ∙ append_assoc before done (Some c.place.result ∷ [])
    ∙ ap (λ (n : ℕ). before ++ (done ++ Some n ∷ [])) c.place.ensures
    ∙ ap (λ (zs : List (Option ℕ)). before ++ zs) (sym (id_next2 place id_actor ids c.loop-i.i id (omega (arith, c.loop-i-test.true, c.pred_count-i-end.ensures)) (c.pred.ensures id)))
