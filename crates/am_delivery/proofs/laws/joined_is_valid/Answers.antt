use Rattle.am_delivery.proofs.Steady as law
use Rattle.am_delivery.proofs.laws.joined_is_valid.Goals as goal

pub returns : goal.returns
returns c = law.valid_push
