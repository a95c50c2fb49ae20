use Rattle.std.proofs.Common.{◌∙◌, ap}
use Rattle.am_graph.specs.Clocks.{covers}
use Rattle.am_view.specs.Seen.{seen_by}
use Rattle.am_view.specs.Steps.{walk}
use Rattle.am_view.proofs.ClockTests.{walk_is_replay}
use Rattle.am_view.proofs.shown.Shown.over.Goals as goal

pub returns-clause-replay : goal.returns-clause-replay
returns-clause-replay c C heads v is clock =
    ap (λ k. walk (seen_by k) c.over.result) c.of.ensures
    ∙ ap (walk (covers c.args.clock.now)) (c.over.ensures ∙ c.rows.ensures ∙ is)
    ∙ walk_is_replay C heads v c.args.clock.now clock
