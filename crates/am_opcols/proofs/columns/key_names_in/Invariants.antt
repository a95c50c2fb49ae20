use Rattle.std.proofs.Common.{◌≤◌, None, map, take}
use Rattle.am_fields.specs.Layout.{key_string}
use Rattle.am_opcols.specs.Counting.{Counts}
use Rattle.am_opcols.proofs.columns.key_names_in.Given as goal

abbrev pub invariant-loop-op : goal.invariant-loop-op
invariant-loop-op g l = record {
  few : l.nulls ≤ l.op-index;
  counts : Counts (map (λ o. key_string o.key) (take l.op-index (map g.O.ReadOp.op l.ops))) l.writer None l.nulls;
}
