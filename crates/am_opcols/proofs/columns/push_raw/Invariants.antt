use Rattle.std.proofs.Common.{◌≡◌, ◌++◌, map, take}
use Rattle.am_values.specs.Columns.{joined}
use Rattle.am_opcols.proofs.columns.push_raw.Given as goal

abbrev pub invariant-loop-op : goal.invariant-loop-op
invariant-loop-op g l = l.out.items ≡ l.fn.out.items ++ joined (map (λ o. o.value) (take l.op-index (map g.O.ReadOp.op l.ops)))
