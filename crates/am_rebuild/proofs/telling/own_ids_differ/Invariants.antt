use Rattle.std.proofs.Common.{◌≡◌, None, map, filter, drop, option_map}
use Rattle.am_types.specs.Views.{id_of}
use Rattle.am_rebuild.specs.Told.{differ_from}
use Rattle.am_rebuild.proofs.telling.own_ids_differ.Given as goal

abbrev pub invariant-loop-named : goal.invariant-loop-named
invariant-loop-named l =
    differ_from (option_map id_of l.last) (map (λ n. id_of n.id) (filter (λ n. n.own) (drop l.named-index l.all)))
    ≡ differ_from None (map (λ n. id_of n.id) (filter (λ n. n.own) l.all))
