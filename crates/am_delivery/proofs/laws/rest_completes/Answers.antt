use Rattle.am_delivery.proofs.Deliveries as law
use Rattle.am_delivery.proofs.laws.rest_completes.Goals as goal

pub returns : goal.returns
returns c = law.rest_completes
