use Rattle.std.proofs.Common.{sym, ◌∙◌}
use Rattle.am_rebuild.proofs.Placed.{at_place}
use Rattle.am_rebuild.proofs.names.is_at.Goals as goal

pub returns-in-Some : goal.returns-in-Some
returns-in-Some c = λ t. at_place c.args.names.now c.args.place c.in-Some.name.now c.args.actor.now c.in-Some.ensures.lookup.3.0 c.in-Some.ensures.lookup.3.1 (sym c.same_actor.ensures ∙ t)
