use Rattle.std.proofs.Common.{◌∙◌, ap}
use Rattle.am_view.specs.Seen.{everything, seen_by}
use Rattle.am_view.specs.Steps.{walk}
use Rattle.am_view.proofs.ClockTests.{walk_everything}
use Rattle.am_view.proofs.shown.Shown.whole.Goals as goal

pub returns-clause-replay : goal.returns-clause-replay
returns-clause-replay c C v is =
    ap (λ k. walk (seen_by k) c.over.result) c.everything.ensures
    ∙ ap (walk everything) (c.over.ensures ∙ c.rows.ensures ∙ is)
    ∙ walk_everything C v
