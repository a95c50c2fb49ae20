use Rattle.am_laws.proofs.Proved as proved
use Rattle.am_laws.proofs.laws.ancestors_keep_order.Goals as goal

pub returns : goal.returns
returns c = proved.ancestors_keep_order
