use Rattle.am_laws.proofs.Proved as proved
use Rattle.am_laws.proofs.laws.verdicts_are_first.Goals as goal

pub returns : goal.returns
returns c = proved.verdicts_are_first
