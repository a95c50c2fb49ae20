use Rattle.std.proofs.Common.{◌++◌, List, map, take, append_assoc, arith, sym, ap, ◌∙◌}
use Rattle.std.proofs.lemmas.List.{append-nil}
use Rattle.am_types.specs.declared.Op.{Op}
use Rattle.am_values.specs.Columns.{joined}
use Rattle.am_opcols.proofs.WriteLaws.{joined_read, all_read}
use Rattle.am_opcols.proofs.columns.push_raw.Goals as goal

pub loop-op-init : goal.loop-op-init
loop-op-init g c = sym (append-nil c.args.out.now.items)

pub loop-op-preserved : goal.loop-op-preserved
loop-op-preserved g c =
    let before = c.args.out.now.items in
    let done = take c.loop-op.op-index (map g.O.ReadOp.op c.args.ops.now) in
    let raw = ap (λ v. v.raw) c.value.ensures in
    c.in_ok-extend_from_slice.ensures.items
    ∙ (λ j. c.loop-op.invariant j ++ raw j)
    ∙ append_assoc before (joined (map (λ o. o.value) done)) (g.O.ReadOp.op c.op-item.result).value.raw
    ∙ ap (λ l. before ++ l) (sym (joined_read g.O.ReadOp.op c.args.ops.now c.loop-op.op-index c.op-item.result c.loop-op-test.true c.op-item.is))

pub returns : goal.returns
returns g c = c.loop-op.invariant ∙ ap (λ (ops : List Op). c.args.out.now.items ++ joined (map (λ o. o.value) ops)) (all_read g.O.ReadOp.op c.args.ops.now c.loop-op.op-index (omega arith))
