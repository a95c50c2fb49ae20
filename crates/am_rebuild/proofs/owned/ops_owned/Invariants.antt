use Rattle.std.proofs.Common.{◌≡◌, map, take}
use Rattle.am_rebuild.proofs.owned.ops_owned.Given as goal

abbrev pub invariant-loop-op : goal.invariant-loop-op
invariant-loop-op g l = l.owned.items ≡ take l.op-index (map g.O.ReadOp.op l.ops)
