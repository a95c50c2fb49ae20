use Rattle.am_delivery.proofs.Keeping as law
use Rattle.am_delivery.proofs.laws.keeps_what_came.Goals as goal

pub returns : goal.returns
returns c = law.keeps_what_came
