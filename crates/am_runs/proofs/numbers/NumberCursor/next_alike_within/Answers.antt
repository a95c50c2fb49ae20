use Rattle.std.proofs.Common.{arith, sym, ◌∙◌}
use Rattle.am_runs.specs.Counters.{entries_from}
use Rattle.am_runs.proofs.Counted.{copies_taken}
use Rattle.am_runs.proofs.numbers.NumberCursor.next_alike_within.Goals as goal

pub returns-then-self-gt0-clause-next : goal.returns-then-self-gt0-clause-next
returns-then-self-gt0-clause-next g c =
    let at = c.self.inside.at in
    (omega arith, omega arith, sym c.self.view_is ∙ copies_taken g.K.Number.value_of c.min-k.result at.copies c.self.inside.value (entries_from g.K.Number.end_of at.literal at.left at.rest.now) (omega arith))
