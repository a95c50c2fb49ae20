use Rattle.am_laws.proofs.Proved as proved
use Rattle.am_laws.proofs.laws.ancestors_are_read.Goals as goal

pub returns : goal.returns
returns c = proved.ancestors_are_read
