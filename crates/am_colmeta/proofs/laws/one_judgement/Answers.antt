use Rattle.am_colmeta.proofs.Judging.{one_judgement}
use Rattle.am_colmeta.proofs.laws.one_judgement.Goals as goal

pub returns : goal.returns
returns c = one_judgement
