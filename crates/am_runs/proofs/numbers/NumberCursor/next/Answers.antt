use Rattle.std.specs.Option.{option_map}
use Rattle.std.proofs.Common.{arith, ap, sym, ◌∙◌, map}
use Rattle.am_runs.specs.Counters.{entries_from}
use Rattle.am_runs.proofs.Entries.{entries-none}
use Rattle.am_runs.proofs.Counted.{counted_none}
use Rattle.am_runs.proofs.numbers.NumberCursor.next.Goals as goal

pub returns-then-self-eq0-clause-end : goal.returns-then-self-eq0-clause-end
returns-then-self-eq0-clause-end g c =
    let at = c.self.inside.at in
    let e = sym c.self.view_is ∙ counted_none g.K.Number.value_of at.copies c.self.inside.value (entries_from g.K.Number.end_of at.literal at.left at.rest.now) (omega arith) ∙ ap (map (option_map g.K.Number.value_of)) (entries-none g.K.Number.end_of _ _ (omega arith)) in
    (e, e)
