use Rattle.std.proofs.Common.{Bor, ℕ, List, map, arith}
use Rattle.am_types.specs.Views.{id_of}
use Rattle.am_opcols.proofs.NotedLaws.{ids_noted}
use Rattle.am_opcols.proofs.others.note_preds.Goals as goal

pub loop-i-preserved : goal.loop-i-preserved
loop-i-preserved g c =
    ids_noted c.args.author.now (g.O.ReadOp.op c.args.op.now).preds c.loop-i.i (id_of c.pred.result) (map (λ (a : Bor (List ℕ)). a.now) c.args.noted.now.items) (map (λ (a : Bor (List ℕ)). a.now) c.loop-i.noted.items) _
    (omega (arith, c.loop-i-test.true, c.pred_count-i-end.ensures)) (c.pred.ensures (id_of c.pred.result))
    c.loop-i.invariant c.in_ok-note.ensures
