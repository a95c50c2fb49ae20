use Rattle.std.proofs.Common.{◌≡◌, ◌≤◌, ◌-◌, ◌++◌, ◌∷◌, List, drop, length, map}
use Rattle.am_types.specs.declared.OpId.{OpId}
use Rattle.am_types.specs.Order.{id_cmp}
use Rattle.am_types.specs.Views.{id_of}
use Rattle.am_merge.specs.Carrying.{ids_of}
use Rattle.am_merge.specs.Merge.{merge}
use Rattle.am_merge.proofs.carry.push_less.Given as goal

abbrev pub invariant-less : goal.invariant-less
invariant-less l = record {
  bound : l.at ≤ length l.added;
  same : (rest : List OpId)
      → map id_of l.initial.ids.items ++ merge id_cmp (id_of l.old ∷ rest) (ids_of (drop l.initial.at l.added))
      ≡ map id_of l.ids.items ++ merge id_cmp (id_of l.old ∷ rest) (ids_of (drop l.at l.added));
}

abbrev pub decreases-less : goal.decreases-less
decreases-less l = length l.added - l.at
