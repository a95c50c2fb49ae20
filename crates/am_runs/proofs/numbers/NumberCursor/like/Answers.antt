use Rattle.std.proofs.Common.{arith, sym, ap, ◌∙◌, take, length, map}
use Rattle.std.specs.Option.{option_copied, option_map}
use Rattle.std.proofs.lemmas.List.{length-map}
use Rattle.am_runs.specs.Counters.{entries_from}
use Rattle.am_runs.proofs.Spelled.{like_mapped}
use Rattle.am_runs.proofs.Counted.{counted_none}
use Rattle.am_runs.proofs.numbers.NumberCursor.like.Goals as goal

pub returns-in-Some-clause-like : goal.returns-in-Some-clause-like
returns-in-Some-clause-like g c =
    let k = c.in-Some.k in
    let l = c.in-Some.ensures.like in
    let at = c.self.inside.at in
    let runs = c.runs_from.result in
    let bare = sym c.self.view_is ∙ counted_none g.K.Number.value_of at.copies c.self.inside.value (entries_from g.K.Number.end_of at.literal at.left at.rest.now) (omega arith) ∙ ap (map (option_map g.K.Number.value_of)) (sym c.runs_from.ensures) in
    (l.0, omega (arith, l.1, ap length bare, length-map runs (option_map g.K.Number.value_of)), ap (take k) bare ∙ like_mapped (option_map g.K.Number.value_of) runs k (option_copied c.in-Some.entry) _ c.number_of.ensures l.2)
