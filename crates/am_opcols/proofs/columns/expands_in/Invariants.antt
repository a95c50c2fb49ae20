use Rattle.std.proofs.Common.{◌≡◌, Some, map, take}
use Rattle.am_opcols.proofs.columns.expands_in.Given as goal

abbrev pub invariant-loop-op : goal.invariant-loop-op
invariant-loop-op g l = l.writer ≡ Some (map (λ o. o.expand) (take l.op-index (map g.O.ReadOp.op l.ops)))
