use Rattle.std.proofs.Common.{length, ◌++◌, append_assoc, ap, ◌∙◌}
use Rattle.std.specs.List.{flat_map}
use Rattle.am_leb.specs.Leb.{uleb}
use Rattle.am_colmeta.specs.Actors.{prefixed}
use Rattle.am_doc.proofs.Turns.{given_more, given_all}
use Rattle.am_doc.proofs.parts.push_actors.Goals as goal

pub loop-actor-preserved : goal.loop-actor-preserved
loop-actor-preserved c =
    given_more prefixed c.push_u.new.out.items c.args.actors.now c.loop-actor.actor-index c.actor-item.result c.actor-item.result c.loop-actor.out.items c.push_prefixed.new.out.items c.loop-actor-test.true c.actor-item.is c.loop-actor.invariant
    (c.in_ok-push_prefixed.ensures ∙ ap (λ b. c.loop-actor.out.items ++ prefixed b) c.as_slice.ensures.value)

pub returns : goal.returns
returns c =
    let actors = c.args.actors.now in
    given_all prefixed c.push_u.new.out.items actors c.loop-actor.actor-index c.loop-actor.out.items c.loop-actor-test.false c.loop-actor.invariant
    ∙ ap (λ b. b ++ flat_map prefixed actors) c.in_ok-push_u.ensures.ok ∙ append_assoc c.args.out.now.items (uleb (length actors)) (flat_map prefixed actors)
