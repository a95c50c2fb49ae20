use Rattle.std.proofs.Common.{map, ◌∙◌}
use Rattle.std.proofs.lemmas.List.{length-map}
use Rattle.am_fields.specs.Layout.{object_counter}
use Rattle.am_fields.proofs.IdLaws.{numbers_only}
use Rattle.am_fields.proofs.objects.NumberColumnCounters.spelled.Goals as goal

pub spelled-requires : goal.spelled-requires
spelled-requires c =
    let objects = c.requires.0 in
    (map object_counter objects, c.requires.1, length-map objects object_counter ∙ c.requires.3)

pub returns-clause-spelled : goal.returns-clause-spelled
returns-clause-spelled c = numbers_only _ _ c.spelled.ensures.spelled
