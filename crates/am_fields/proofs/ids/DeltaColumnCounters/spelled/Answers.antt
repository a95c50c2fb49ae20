use Rattle.std.proofs.Common.{map, ◌∙◌}
use Rattle.std.proofs.lemmas.List.{length-map}
use Rattle.am_fields.specs.Layout.{id_counter}
use Rattle.am_fields.proofs.Bounds.{counters_fit}
use Rattle.am_fields.proofs.IdLaws.{deltas_only, ids_between}
use Rattle.am_fields.proofs.ids.DeltaColumnCounters.spelled.Goals as goal

pub spelled-requires : goal.spelled-requires
spelled-requires c =
    let ids = c.requires.0 in
    (map id_counter ids, c.requires.1, length-map ids id_counter ∙ c.requires.3, counters_fit (map id_counter ids) (ids_between ids c.requires.2))

pub returns-clause-spelled : goal.returns-clause-spelled
returns-clause-spelled c = deltas_only _ _ c.spelled.ensures.spelled
