use Rattle.std.proofs.Common.{◌≡◌, ◌≤◌, ◌++◌, drop, length, map}
use Rattle.am_types.specs.Order.{id_cmp}
use Rattle.am_types.specs.Views.{id_of}
use Rattle.am_merge.specs.Carrying.{ids_of}
use Rattle.am_merge.specs.Merge.{merge}
use Rattle.am_merge.proofs.carry.merged.Given as goal

abbrev pub invariant-old : goal.invariant-old
invariant-old l = record {
  bound : l.at ≤ length l.added;
  same : merge id_cmp l.initial.rest (ids_of l.added) ≡ map id_of l.ids.items ++ merge id_cmp l.rest (ids_of (drop l.at l.added));
}

abbrev pub decreases-old : goal.decreases-old
decreases-old l = length l.rest
