use Rattle.std.proofs.Common.{◌++◌, List, Option, ℕ, length, map, option_map, take, arith, sym, ap, ◌∙◌}
use Rattle.std.proofs.lemmas.List.{length-map}
use Rattle.am_types.specs.declared.OpId.{OpId}
use Rattle.am_types.specs.declared.Op.{Op}
use Rattle.am_fields.specs.Columns.{place_of}
use Rattle.am_fields.specs.Layout.{id_actor, flat}
use Rattle.am_fields.proofs.WriteLaws.{map2-append}
use Rattle.am_opcols.proofs.WriteLaws.{all_read, preds_read}
use Rattle.am_opcols.proofs.CanonicalLaws.{length-preds}
use Rattle.am_opcols.proofs.columns.push_pred_actors.Goals as goal

pub loop-op-preserved : goal.loop-op-preserved
loop-op-preserved g c =
    let place = option_map (place_of c.args.actors.now) in
    let ids = flat (map (λ o. o.preds) (take c.loop-op.op-index (map g.O.ReadOp.op c.args.ops.now))) in
    let more = (g.O.ReadOp.op c.op-item.result).preds in
    c.in_ok-push_places.ensures
    ∙ ap (λ (zs : List (Option ℕ)). zs ++ map place (map id_actor more)) c.loop-op.invariant
    ∙ sym (map2-append place id_actor ids more)
    ∙ ap (λ (zs : List OpId). map place (map id_actor zs)) (sym (preds_read g.O.ReadOp.op c.args.ops.now c.loop-op.op-index c.op-item.result c.loop-op-test.true c.op-item.is))

pub push_list-requires : goal.push_list-requires
push_list-requires g c =
    let place = option_map (place_of c.args.actors.now) in
    let ops = map g.O.ReadOp.op c.args.ops.now in
    let ids = flat (map (λ o. o.preds) (take c.loop-op.op-index ops)) in
    let all = ap (λ (ops : List Op). length (flat (map (λ o. o.preds) ops))) (all_read g.O.ReadOp.op c.args.ops.now c.loop-op.op-index (omega arith)) in
    omega (arith, ap length c.as_slice.ensures.value, ap length c.loop-op.invariant, length-map (map id_actor ids) place, length-map ids id_actor, all, length-preds ops, c.requires.few)
