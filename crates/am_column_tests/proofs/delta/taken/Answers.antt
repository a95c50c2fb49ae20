use Rattle.std.proofs.Common.{arith, pos}
use Rattle.std.proofs.lemmas.Int.{ints}
use Rattle.am_delta.specs.Deltas.{IsMiddling}
use Rattle.am_delta.proofs.Steps.{between_middling}
use Rattle.am_column_tests.proofs.delta.taken.Goals as goal

pub take-requires-clause-values : goal.take-requires-clause-values
take-requires-clause-values g c =
    let low : IsMiddling (pos 0) = (omega (arith, ints), omega (arith, ints)) in
    let high : IsMiddling (pos 13) = (omega (arith, ints), omega (arith, ints)) in
    between_middling (pos 0) (pos 13) _ low high c.in-Ok.ensures.ok.2
