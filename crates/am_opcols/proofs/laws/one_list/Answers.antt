use Rattle.am_opcols.proofs.OneReading.{ops-same}
use Rattle.am_opcols.proofs.laws.one_list.Goals as goal

pub returns : goal.returns
returns c = ops-same
