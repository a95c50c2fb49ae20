use Rattle.std.proofs.Common.{◌≡◌, map, take}
use Rattle.am_opcols.proofs.columns.push_numbers.Given as goal

abbrev pub invariant-loop-op : goal.invariant-loop-op
invariant-loop-op g l = l.room.items ≡ map (g.C.Cell.cell l.actors) (take l.op-index (map g.O.ReadOp.op l.ops))
