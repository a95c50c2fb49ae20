use Rattle.am_laws.proofs.Proved as proved
use Rattle.am_laws.proofs.laws.elements_follow_references.Goals as goal

pub returns : goal.returns
returns c = proved.elements_follow_references
