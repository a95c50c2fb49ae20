use Rattle.am_delivery.proofs.Counting as law
use Rattle.am_delivery.proofs.laws.joins_no_more.Goals as goal

pub returns : goal.returns
returns c = law.joins_no_more
