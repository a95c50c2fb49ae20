use Rattle.std.proofs.Common.{map, take}
use Rattle.am_opcols.specs.Noted.{Notes}
use Rattle.am_opcols.proofs.others.note_preds.Given as goal

abbrev pub invariant-loop-i : goal.invariant-loop-i
invariant-loop-i g l = Notes l.author (map (λ id. id.actor) (take l.i (g.O.ReadOp.op l.op).preds)) (map (λ a. a.now) l.initial.noted.items) (map (λ a. a.now) l.noted.items)
