use Rattle.std.proofs.Common.{◌∷◌, ◌++◌, [], length, map, take, arith, sym, ap, ◌∙◌, subst}
use Rattle.am_types.specs.Fine.{IsKey}
use Rattle.am_fields.specs.Layout.{key_counter}
use Rattle.am_opcols.proofs.WriteLaws.{fine_read, field_read, length_fields}
use Rattle.am_opcols.proofs.columns.push_key_counters.Goals as goal

pub key_counter-requires : goal.key_counter-requires
key_counter-requires g c = subst IsKey (sym c.key.ensures) (fine_read g.O.ReadOp.op c.args.ops.now c.loop-op.op-index c.op-item.result c.loop-op-test.true c.op-item.is c.requires.fine).key

pub loop-op-preserved : goal.loop-op-preserved
loop-op-preserved g c =
    let done = take c.loop-op.op-index (map g.O.ReadOp.op c.args.ops.now) in
    c.in_ok-push.ensures.ok
    ∙ ap (λ l. l ++ c.key_counter.result ∷ []) c.loop-op.invariant
    ∙ ap (λ z. map (λ o. key_counter o.key) done ++ z ∷ []) (c.key_counter.ensures.value ∙ ap key_counter c.key.ensures)
    ∙ sym (field_read g.O.ReadOp.op (λ o. key_counter o.key) c.args.ops.now c.loop-op.op-index c.op-item.result c.loop-op-test.true c.op-item.is)

pub push_to-requires : goal.push_to-requires
push_to-requires g c =
    omega (arith, ap length c.loop-op.invariant, length_fields g.O.ReadOp.op (λ o. key_counter o.key) c.args.ops.now c.loop-op.op-index (omega arith), c.requires.few)
