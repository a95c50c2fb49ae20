use Rattle.std.proofs.Common.{◌≡◌, ◌+◌, ◌++◌, map, drop}
use Rattle.am_types.specs.Operations.{numbered, operations}
use Rattle.am_places.specs.Numbered.{operation_of}
use Rattle.am_merge.proofs.added.push_operations.Given as goal

abbrev pub invariant-loop-op : goal.invariant-loop-op
invariant-loop-op l = record {
  count : l.counter ≡ l.change.start + l.op-index;
  whole : map operation_of l.all.items ++ numbered l.counter l.change.actor (drop l.op-index l.change.ops) ≡ map operation_of l.initial.all.items ++ operations l.change;
}
