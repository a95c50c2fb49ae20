use Rattle.am_delivery.proofs.Deliveries as law
use Rattle.am_delivery.proofs.laws.fits_in_every_listing.Goals as goal

pub returns : goal.returns
returns c = law.fits_in_every_listing
