use Rattle.am_laws.proofs.Proved as proved
use Rattle.am_laws.proofs.laws.listing_is_free.Goals as goal

pub returns : goal.returns
returns c = proved.listing_is_free
