use Rattle.std.proofs.Common.{◌∙◌, ap}
use Rattle.std.specs.Prelude.{unwrap_or}
use Rattle.am_graph.proofs.TextMaps.{looked_up}
use Rattle.am_rebuild.proofs.lasts.last_in.Goals as goal

pub returns-in-Some : goal.returns-in-Some
returns-in-Some c = ap (λ o. unwrap_or o 0) (c.in-Some.ensures.value ∙ looked_up c.args.actor.now c.args.lasts.now.entries)

pub returns-in-None : goal.returns-in-None
returns-in-None c = ap (λ o. unwrap_or o 0) (c.in-None.ensures.value ∙ looked_up c.args.actor.now c.args.lasts.now.entries)
