use Rattle.am_delivery.proofs.Deliveries as law
use Rattle.am_delivery.proofs.laws.both_come_back.Goals as goal

pub returns : goal.returns
returns c = law.both_come_back
