use Rattle.am_laws.proofs.Proved as proved
use Rattle.am_laws.proofs.laws.references_are_there.Goals as goal

pub returns : goal.returns
returns c = proved.references_are_there
