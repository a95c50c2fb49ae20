use Rattle.std.proofs.Common.{◌≡◌, ◌∷◌, ◌++◌, [], ◌<◌, ◌^◌, List, Some, Bool, length, map, take, arith, sym, ap, ◌∙◌}
use Rattle.std.proofs.lemmas.List.{length-map}
use Rattle.am_types.specs.declared.Op.{Op}
use Rattle.am_fields.proofs.WriteLaws.{held, stepped}
use Rattle.am_fields.proofs.CanonicalLaws.{maybe_canonical}
use Rattle.am_opcols.proofs.WriteLaws.{field_read, all_read, length_fields, ok_then}
use Rattle.am_opcols.proofs.columns.expands_in.Goals as goal

pub push-requires : goal.push-requires
push-requires g c =
    let done = take c.loop-op.op-index (map g.O.ReadOp.op c.args.ops.now) in
    record {
      room = held c.loop-op.writer (map (λ o. o.expand) done) (λ (xs : List Bool). length xs < 2 ^ 32) c.loop-op.invariant
          (omega (arith, c.loop-op-test.true, length_fields g.O.ReadOp.op (λ o. o.expand) c.args.ops.now c.loop-op.op-index (omega arith), c.requires));
    }

pub loop-op-preserved : goal.loop-op-preserved
loop-op-preserved g c =
    let done = take c.loop-op.op-index (map g.O.ReadOp.op c.args.ops.now) in
    stepped c.loop-op.writer c.push.new.self (map (λ o. o.expand) done) c.expand.result c.loop-op.invariant c.in_ok-push.ensures.ok
    ∙ ap (λ z. Some (map (λ o. o.expand) done ++ z ∷ [])) c.expand.ensures
    ∙ ap Some (sym (field_read g.O.ReadOp.op (λ o. o.expand) c.args.ops.now c.loop-op.op-index c.op-item.result c.loop-op-test.true c.op-item.is))

pub returns : goal.returns
returns g c =
    let ops = map g.O.ReadOp.op c.args.ops.now in
    let all : take c.loop-op.op-index ops ≡ ops = all_read g.O.ReadOp.op c.args.ops.now c.loop-op.op-index (omega arith) in
    ok_then c.finish_maybe.result _ _ (λ bytes h.
    maybe_canonical c.loop-op.writer (map (λ o. o.expand) ops) bytes (c.loop-op.invariant ∙ ap (λ (zs : List Op). Some (map (λ o. o.expand) zs)) all)
    (omega (arith, length-map ops (λ o. o.expand), length-map c.args.ops.now g.O.ReadOp.op, c.requires)) h) c.finish_maybe.ensures.ok
