use Rattle.std.proofs.Common.{◌≡◌, map, take}
use Rattle.am_fields.specs.Layout.{key_counter}
use Rattle.am_opcols.proofs.columns.push_key_counters.Given as goal

abbrev pub invariant-loop-op : goal.invariant-loop-op
invariant-loop-op g l = l.room ≡ map (λ o. key_counter o.key) (take l.op-index (map g.O.ReadOp.op l.ops))
