use Rattle.am_laws.proofs.Proved as proved
use Rattle.am_laws.proofs.laws.first_bad_is_least.Goals as goal

pub returns : goal.returns
returns c = proved.first_bad_is_least
