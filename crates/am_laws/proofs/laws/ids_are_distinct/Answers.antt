use Rattle.am_laws.proofs.Proved as proved
use Rattle.am_laws.proofs.laws.ids_are_distinct.Goals as goal

pub returns : goal.returns
returns c = proved.ids_are_distinct
