use Rattle.am_laws.proofs.Proved as proved
use Rattle.am_laws.proofs.laws.views_stay.Goals as goal

pub returns : goal.returns
returns c = proved.views_stay
