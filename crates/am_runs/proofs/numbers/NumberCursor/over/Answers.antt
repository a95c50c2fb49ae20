use Rattle.std.proofs.Common.{arith, sym, subst, ◌≤◌, length, map}
use Rattle.std.specs.Option.{option_map}
use Rattle.std.proofs.lemmas.List.{length-map}
use Rattle.am_runs.specs.Runs.{JoinsRuns}
use Rattle.am_runs.proofs.ItemsOf.{JoinsRuns-items}
use Rattle.am_runs.proofs.Spelled.{joins_again}
use Rattle.am_runs.proofs.numbers.NumberCursor.over.Goals as goal

pub numbers_of-requires : goal.numbers_of-requires
numbers_of-requires g c = JoinsRuns-items _ _ _ c.in-Ok.ensures.ok.0

pub returns-in-Ok-clause-ok : goal.returns-in-Ok-clause-ok
returns-in-Ok-clause-ok g c = subst (λ list. JoinsRuns g.K.Number.end_of c.args.bytes.now (map (option_map g.K.Number.spelling) list) × (length list ≤ c.args.most)) (sym c.numbers_of.ensures)
    (joins_again g.K.Number.end_of g.K.Number.value_of g.K.Number.spelling g.met.K.Number.respelled _ _ (λ i. omega (arith, c.type_inv.bytes i)) c.in-Ok.ensures.ok.0, omega (arith, c.in-Ok.ensures.ok.1, length-map c.in-Ok.runs (option_map g.K.Number.value_of)))
