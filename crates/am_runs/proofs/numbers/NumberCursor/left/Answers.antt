use Rattle.std.proofs.Common.{ap, sym, ◌∙◌, ◌+◌, length}
use Rattle.am_runs.specs.Counters.{entries_from}
use Rattle.am_runs.proofs.Entries.{length-entries}
use Rattle.am_runs.proofs.Counted.{length-counted}
use Rattle.am_runs.proofs.numbers.NumberCursor.left.Goals as goal

pub returns : goal.returns
returns g c =
    let at = c.self.inside.at in
    sym (ap length (sym c.self.view_is) ∙ length-counted g.K.Number.value_of at.copies c.self.inside.value (entries_from g.K.Number.end_of at.literal at.left at.rest.now) ∙ ap (λ n. at.copies + n) (length-entries _ _ _ c.self.invariant.holds))
