use Rattle.am_runs.proofs.Spellings as spellings
use Rattle.am_runs.proofs.laws.one_spelled_list.Goals as goal

pub returns : goal.returns
returns g c = spellings.one_spelled _ g.met.K.Item.reads
