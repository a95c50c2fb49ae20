use Rattle.am_colmeta.proofs.Cutting.{cut_fills}
use Rattle.am_colmeta.proofs.Judging.{one_cut}
use Rattle.am_colmeta.proofs.laws.one_cut.Goals as goal

pub returns-clause-one : goal.returns-clause-one
returns-clause-one c = one_cut

pub returns-clause-fills : goal.returns-clause-fills
returns-clause-fills c = cut_fills
