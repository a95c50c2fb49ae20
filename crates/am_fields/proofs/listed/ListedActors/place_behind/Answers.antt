use Rattle.std.proofs.Common.{arith}
use Rattle.am_fields.proofs.PlaceLaws.{place_of-le}
use Rattle.am_fields.proofs.listed.ListedActors.place_behind.Goals as goal

pub returns-then-self-clause-few : goal.returns-then-self-clause-few
returns-then-self-clause-few c = omega (arith, c.place_among.ensures, place_of-le c.args.others.now c.args.actor.now)

pub returns-else-self-clause-few : goal.returns-else-self-clause-few
returns-else-self-clause-few c = omega (arith, c.place_in.ensures, place_of-le c.args.others.now c.args.actor.now)
