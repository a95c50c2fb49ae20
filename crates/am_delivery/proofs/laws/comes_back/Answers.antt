use Rattle.am_delivery.proofs.Deliveries as law
use Rattle.am_delivery.proofs.laws.comes_back.Goals as goal

pub returns : goal.returns
returns c = law.comes_back
