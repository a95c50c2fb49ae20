use Rattle.am_delivery.proofs.Alikeness as law
use Rattle.am_delivery.proofs.laws.listing_is_free.Goals as goal

pub returns : goal.returns
returns c = law.listing_is_free
