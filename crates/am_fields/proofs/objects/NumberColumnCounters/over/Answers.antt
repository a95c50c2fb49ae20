use Rattle.std.proofs.Common.{map, ◌∙◌}
use Rattle.std.proofs.lemmas.List.{length-map}
use Rattle.am_fields.specs.Columns.{SpellsNumbers}
use Rattle.am_fields.specs.Layout.{object_counter}
use Rattle.am_fields.specs.Spelling.{SpellsOnly}
use Rattle.am_fields.proofs.Filled.{OnErr-map, IfOk-map}
use Rattle.am_fields.proofs.IdLaws.{numbers_only}
use Rattle.am_fields.proofs.objects.NumberColumnCounters.over.Goals as goal

pub returns-clause-spelled : goal.returns-clause-spelled
returns-clause-spelled c = IfOk-map c.over.result (SpellsNumbers c.args.bytes.now) (SpellsOnly SpellsNumbers c.args.bytes.now) (numbers_only c.args.bytes.now) c.over.ensures.spelled

pub returns-clause-err : goal.returns-clause-err
returns-clause-err c = OnErr-map c.over.result _ _ (λ none objects spelled within n. none (map object_counter objects) spelled (length-map objects object_counter ∙ n)) c.over.ensures.err
