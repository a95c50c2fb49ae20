use Rattle.am_opcols.proofs.ShortActors.{short_at}
use Rattle.am_opcols.proofs.others.copies_of.Goals as goal

pub actor_in-requires : goal.actor_in-requires
actor_in-requires c = short_at c.args.actors.now c.requires c.loop-i.i _ c.loop-i-test.true
