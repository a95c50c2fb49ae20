use Rattle.am_delta.proofs.Spellings as spellings
use Rattle.am_delta.proofs.laws.one_list.Goals as goal

pub returns : goal.returns
returns c = spellings.one_joined
