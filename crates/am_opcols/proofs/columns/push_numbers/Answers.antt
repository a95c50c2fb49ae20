use Rattle.std.proofs.Common.{◌∷◌, ◌++◌, [], length, map, take, arith, sym, ap, ◌∙◌}
use Rattle.am_opcols.proofs.WriteLaws.{fine_read, field_read, length_fields}
use Rattle.am_opcols.proofs.columns.push_numbers.Goals as goal

pub of-requires : goal.of-requires
of-requires g c = fine_read g.O.ReadOp.op c.args.ops.now c.loop-op.op-index c.op-item.result c.loop-op-test.true c.op-item.is c.requires.fine

pub loop-op-preserved : goal.loop-op-preserved
loop-op-preserved g c =
    let cell = g.C.Cell.cell c.args.actors.now in
    let done = take c.loop-op.op-index (map g.O.ReadOp.op c.args.ops.now) in
    c.in_ok-push.ensures.items
    ∙ ap (λ l. l ++ c.of.result ∷ []) c.loop-op.invariant
    ∙ ap (λ z. map cell done ++ z ∷ []) c.of.ensures
    ∙ sym (field_read g.O.ReadOp.op cell c.args.ops.now c.loop-op.op-index c.op-item.result c.loop-op-test.true c.op-item.is)

pub push_list-requires : goal.push_list-requires
push_list-requires g c =
    let cell = g.C.Cell.cell c.args.actors.now in
    omega (arith, ap length c.as_slice.ensures.value, ap length c.loop-op.invariant, length_fields g.O.ReadOp.op cell c.args.ops.now c.loop-op.op-index (omega arith), c.requires.few)
