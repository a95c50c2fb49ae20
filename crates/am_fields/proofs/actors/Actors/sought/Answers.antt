use Rattle.am_fields.proofs.ListPlaces.{found_is}
use Rattle.am_fields.proofs.actors.Actors.sought.Goals as goal

pub returns-clause-actor : goal.returns-clause-actor
returns-clause-actor c = found_is c.args.self.now c.found-behind.result.0 c.found-behind.result.1 c.args.place c.found-behind.ensures
