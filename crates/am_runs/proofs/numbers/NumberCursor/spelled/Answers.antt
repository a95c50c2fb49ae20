use Rattle.std.proofs.Common.{arith, sym, ap, subst, map, length, ◌∙◌}
use Rattle.std.specs.Option.{option_map}
use Rattle.std.proofs.lemmas.List.{length-map}
use Rattle.am_runs.specs.Runs.{JoinsRuns}
use Rattle.am_runs.proofs.ItemsOf.{JoinsRuns-items}
use Rattle.am_runs.proofs.Spelled.{joins_again}
use Rattle.am_runs.proofs.numbers.NumberCursor.spelled.Goals as goal

pub spelled-runs-requires : goal.spelled-runs-requires
spelled-runs-requires g c = (map (option_map g.K.Number.spelling) c.requires.0, c.requires.1, length-map c.requires.0 (option_map g.K.Number.spelling) ∙ c.requires.2)

pub numbers_of-requires : goal.numbers_of-requires
numbers_of-requires g c = JoinsRuns-items _ _ _ c.spelled-runs.ensures.spelled

pub returns-clause-spelled : goal.returns-clause-spelled
returns-clause-spelled g c = subst (λ list. JoinsRuns g.K.Number.end_of c.args.bytes.now (map (option_map g.K.Number.spelling) list)) (sym c.numbers_of.ensures) (joins_again g.K.Number.end_of g.K.Number.value_of g.K.Number.spelling g.met.K.Number.respelled _ _ (λ i. omega (arith, c.type_inv.bytes i)) c.spelled-runs.ensures.spelled)

pub returns-clause-count : goal.returns-clause-count
returns-clause-count g c = ap length c.numbers_of.ensures ∙ length-map c.spelled-runs.result (option_map g.K.Number.value_of) ∙ c.spelled-runs.ensures.count
