use Rattle.std.proofs.Common.{map, ◌∙◌}
use Rattle.std.proofs.lemmas.List.{length-map}
use Rattle.am_fields.specs.Columns.{SpellsDeltas}
use Rattle.am_fields.specs.Layout.{id_counter}
use Rattle.am_fields.specs.Spelling.{SpellsOnly}
use Rattle.am_fields.proofs.Filled.{OnErr-map, IfOk-map}
use Rattle.am_fields.proofs.IdLaws.{deltas_only, ids_between}
use Rattle.am_fields.proofs.ids.DeltaColumnCounters.over.Goals as goal

pub returns-clause-spelled : goal.returns-clause-spelled
returns-clause-spelled c = IfOk-map c.over.result (SpellsDeltas c.args.bytes.now) (SpellsOnly SpellsDeltas c.args.bytes.now) (deltas_only c.args.bytes.now) c.over.ensures.spelled

pub returns-clause-err : goal.returns-clause-err
returns-clause-err c = OnErr-map c.over.result _ _ (λ none ids spelled within n. none (map id_counter ids) spelled (length-map ids id_counter ∙ n) (ids_between ids within)) c.over.ensures.err
