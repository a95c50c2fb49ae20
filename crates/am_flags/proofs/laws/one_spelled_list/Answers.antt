use Rattle.am_flags.proofs.Spellings as spellings
use Rattle.am_flags.proofs.laws.one_spelled_list.Goals as goal

pub returns : goal.returns
returns c = spellings.one_spelled
