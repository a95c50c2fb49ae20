use Rattle.std.proofs.Common.{arith, map, ◌∙◌}
use Rattle.std.specs.Option.{option_map}
use Rattle.std.proofs.lemmas.List.{length-map}
use Rattle.am_runs.specs.Items.{text_of, text_spelling}
use Rattle.am_runs.proofs.ItemsOf.{JoinsRuns-items}
use Rattle.am_runs.proofs.Spelled.{joins_texts}
use Rattle.am_runs.proofs.text.TextCursor.spelled.Goals as goal

pub spelled-runs-requires : goal.spelled-runs-requires
spelled-runs-requires c = (map (option_map text_spelling) c.requires.0, c.requires.1, length-map c.requires.0 (option_map text_spelling) ∙ c.requires.2)

pub invariant_of-result : goal.invariant_of-result
invariant_of-result c = (JoinsRuns-items _ _ _ c.spelled-runs.ensures.spelled, omega (arith, c.spelled-runs.ensures.count))

pub returns-clause-spelled : goal.returns-clause-spelled
returns-clause-spelled c = joins_texts _ _ (λ i. omega (arith, c.type_inv.bytes i)) c.spelled-runs.ensures.spelled

pub returns-clause-count : goal.returns-clause-count
returns-clause-count c = length-map c.spelled-runs.result (option_map text_of) ∙ c.spelled-runs.ensures.count
