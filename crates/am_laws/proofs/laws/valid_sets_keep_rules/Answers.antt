use Rattle.am_laws.proofs.Proved as proved
use Rattle.am_laws.proofs.laws.valid_sets_keep_rules.Goals as goal

pub returns : goal.returns
returns c = proved.valid_sets_keep_rules
