use Rattle.am_change.proofs.FrontLaws.{hashes-split}
use Rattle.am_change.proofs.laws.one_hash_list.Goals as goal

pub returns : goal.returns
returns c = hashes-split
