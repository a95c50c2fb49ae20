use Rattle.am_runs.proofs.Spelled.{one_signed}
use Rattle.am_runs.proofs.laws.one_signed_list.Goals as goal

pub returns : goal.returns
returns c = one_signed
