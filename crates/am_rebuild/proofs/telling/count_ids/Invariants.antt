use Rattle.std.proofs.Common.{◌≡◌, ◌+◌, ◌≤◌, None, map, drop, option_map}
use Rattle.am_types.specs.Views.{id_of}
use Rattle.am_rebuild.specs.Told.{ids_behind}
use Rattle.am_rebuild.proofs.telling.count_ids.Given as goal

abbrev pub invariant-loop-named : goal.invariant-loop-named
invariant-loop-named l = record {
  few : l.count ≤ l.named-index;
  is : l.count + ids_behind (option_map id_of l.last) (map (λ n. id_of n.id) (drop l.named-index l.all)) ≡ ids_behind None (map (λ n. id_of n.id) l.all);
}
