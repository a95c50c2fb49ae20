use Rattle.std.proofs.Common.{arith, ◌≡◌, ◌<◌, ◌∙◌}
use Rattle.std.specs.Option.{option_copied, option_map}
use Rattle.am_runs.specs.Counters.{entries_from}
use Rattle.am_runs.proofs.Counted.{counted_of}
use Rattle.am_runs.proofs.numbers.numbers_of.Goals as goal
use Rattle.am_runs.proofs.numbers.numbers_of.Goals.{then-at-gt0, else-at-gt0}

pub returns : goal.returns
returns g c =
    let at = c.counters_of.result.0 in
    let entry = option_copied c.counters_of.result.1 in
    let value_is : 0 < at.copies → c.if-at-gt0.value ≡ option_map g.K.Number.value_of entry = λ some. elim c.if-at-gt0.branch [ then-at-gt0 w ↦ w.value-is ∙ w.number_of-value.ensures | else-at-gt0 w ↦ absurd (omega arith) ] in
    counted_of g.K.Number.value_of c.args.runs.now (entries_from g.K.Number.end_of at.literal at.left at.rest.now) at.copies entry c.if-at-gt0.value c.counters_of.ensures.list value_is
