use Rattle.am_delivery.proofs.Steady as law
use Rattle.am_delivery.proofs.laws.stays_stored.Goals as goal

pub returns : goal.returns
returns c = law.stays_stored
