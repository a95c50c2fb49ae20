use Rattle.am_values.proofs.Spelling.{one_list}
use Rattle.am_values.proofs.laws.one_list.Goals as goal

pub returns : goal.returns
returns c = one_list
