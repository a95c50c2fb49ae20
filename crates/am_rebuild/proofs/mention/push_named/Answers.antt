use Rattle.am_rebuild.specs.Names.{names_of}
use Rattle.am_rebuild.proofs.Placed.{placed_more}
use Rattle.am_rebuild.proofs.mention.push_named.Goals as goal

pub returns-clause-placed : goal.returns-clause-placed
returns-clause-placed c = placed_more (names_of c.args.names.now) c.args.all.now.items c.push.new.self.items _ c.in_ok-push.ensures.items c.place_of-place.ensures
