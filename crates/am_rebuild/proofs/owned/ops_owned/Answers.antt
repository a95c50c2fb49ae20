use Rattle.std.proofs.Common.{◌<◌, ◌≤◌, ◌++◌, ◌∷◌, ◌∙◌, [], List, length, map, refl, sym, subst, arith}
use Rattle.std.proofs.lemmas.List.{take_all, take_more}
use Rattle.am_types.specs.declared.Op.{Op}
use Rattle.am_types.specs.Fine.{FineOp}
use Rattle.am_fits.proofs.ReadLists.{length_read, read_at}
use Rattle.am_rebuild.proofs.owned.ops_owned.Goals as goal

pub op_owned-requires : goal.op_owned-requires
op_owned-requires g c =
    let all : List Op = map g.O.ReadOp.op c.args.ops.now in
    let d : Op = g.O.ReadOp.op c.op-item.result in
    let l : c.loop-op.op-index < length all = omega (arith, length_read g.O.ReadOp.op c.args.ops.now all refl, c.loop-op-test.true) in
    subst FineOp (read_at g.O.ReadOp.op c.args.ops.now all refl c.loop-op.op-index c.op-item.result c.loop-op-test.true c.op-item.is d) (c.requires c.loop-op.op-index d l)

pub loop-op-preserved : goal.loop-op-preserved
loop-op-preserved g c =
    let all : List Op = map g.O.ReadOp.op c.args.ops.now in
    let d : Op = g.O.ReadOp.op c.op-item.result in
    let l : c.loop-op.op-index < length all = omega (arith, length_read g.O.ReadOp.op c.args.ops.now all refl, c.loop-op-test.true) in
    let at = read_at g.O.ReadOp.op c.args.ops.now all refl c.loop-op.op-index c.op-item.result c.loop-op-test.true c.op-item.is d in
    c.in_ok-push.ensures.items ∙ (λ j. c.loop-op.invariant j ++ (c.in_ok-op_owned.ensures ∙ sym at) j ∷ []) ∙ sym (take_more all c.loop-op.op-index d l)

pub returns : goal.returns
returns g c =
    let all : List Op = map g.O.ReadOp.op c.args.ops.now in
    let past : length all ≤ c.loop-op.op-index = omega (arith, length_read g.O.ReadOp.op c.args.ops.now all refl, c.loop-op-test.false) in
    c.from.ensures ∙ c.loop-op.invariant ∙ take_all c.loop-op.op-index all past
