use Rattle.std.proofs.Common.{Bor, ℕ, List, [], map, arith, subst}
use Rattle.std.specs.List.{flat_map}
use Rattle.am_types.specs.declared.Op.{Op}
use Rattle.am_opcols.specs.Noted.{Notes}
use Rattle.am_opcols.specs.Others.{actors_of}
use Rattle.am_opcols.proofs.NotedLaws.{ops_noted}
use Rattle.am_opcols.proofs.WriteLaws.{in_read, at_read, all_read}
use Rattle.am_opcols.proofs.others.noted_in.Goals as goal

pub loop-op-preserved : goal.loop-op-preserved
loop-op-preserved g c =
    let o = g.O.ReadOp.op in
    let xs = c.args.ops.now in
    ops_noted c.args.author.now (map o xs) c.loop-op.op-index (o c.op-item.result) [] (map (λ (a : Bor (List ℕ)). a.now) c.loop-op.noted.items) _
    (in_read o xs c.loop-op.op-index c.loop-op-test.true) (at_read o xs c.loop-op.op-index c.op-item.result c.loop-op-test.true c.op-item.is)
    c.loop-op.invariant c.in_ok-note_op.ensures

pub returns : goal.returns
returns g c =
    subst (λ (ops : List Op). Notes c.args.author.now (flat_map actors_of ops) [] (map (λ (a : Bor (List ℕ)). a.now) c.loop-op.noted.items)) (all_read g.O.ReadOp.op c.args.ops.now c.loop-op.op-index (omega arith)) c.loop-op.invariant
