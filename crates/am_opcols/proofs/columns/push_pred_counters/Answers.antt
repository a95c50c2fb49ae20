use Rattle.std.proofs.Common.{◌++◌, List, Option, ℤ, length, map, take, arith, sym, ap, ◌∙◌}
use Rattle.std.proofs.lemmas.List.{length-map, map-append}
use Rattle.am_types.specs.declared.OpId.{OpId}
use Rattle.am_types.specs.declared.Op.{Op}
use Rattle.am_fields.specs.Layout.{id_counter, flat}
use Rattle.am_opcols.proofs.WriteLaws.{fine_read, all_read, preds_read}
use Rattle.am_opcols.proofs.CanonicalLaws.{length-preds}
use Rattle.am_opcols.proofs.columns.push_pred_counters.Goals as goal

pub push_counters-requires : goal.push_counters-requires
push_counters-requires g c = fine_read g.O.ReadOp.op c.args.ops.now c.loop-op.op-index c.op-item.result c.loop-op-test.true c.op-item.is c.requires.fine

pub loop-op-preserved : goal.loop-op-preserved
loop-op-preserved g c =
    let ids = flat (map (λ o. o.preds) (take c.loop-op.op-index (map g.O.ReadOp.op c.args.ops.now))) in
    let more = (g.O.ReadOp.op c.op-item.result).preds in
    c.in_ok-push_counters.ensures
    ∙ ap (λ (zs : List (Option ℤ)). zs ++ map id_counter more) c.loop-op.invariant
    ∙ sym (map-append id_counter ids more)
    ∙ ap (λ (zs : List OpId). map id_counter zs) (sym (preds_read g.O.ReadOp.op c.args.ops.now c.loop-op.op-index c.op-item.result c.loop-op-test.true c.op-item.is))

pub push_to-requires : goal.push_to-requires
push_to-requires g c =
    let ops = map g.O.ReadOp.op c.args.ops.now in
    let ids = flat (map (λ o. o.preds) (take c.loop-op.op-index ops)) in
    let all = ap (λ (ops : List Op). length (flat (map (λ o. o.preds) ops))) (all_read g.O.ReadOp.op c.args.ops.now c.loop-op.op-index (omega arith)) in
    omega (arith, ap length c.loop-op.invariant, length-map ids id_counter, all, length-preds ops, c.requires.few)
