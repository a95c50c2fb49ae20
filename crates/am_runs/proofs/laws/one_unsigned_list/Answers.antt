use Rattle.am_runs.proofs.Spelled.{one_unsigned}
use Rattle.am_runs.proofs.laws.one_unsigned_list.Goals as goal

pub returns : goal.returns
returns c = one_unsigned
