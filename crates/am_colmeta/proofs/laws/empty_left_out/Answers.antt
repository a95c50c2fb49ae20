use Rattle.am_colmeta.proofs.Collecting.{Ascend-not_empty}
use Rattle.am_colmeta.proofs.Entries.{body-not_empty}
use Rattle.am_colmeta.proofs.Judging.{found_without_empty}
use Rattle.am_colmeta.proofs.laws.empty_left_out.Goals as goal

pub returns-clause-found : goal.returns-clause-found
returns-clause-found c = found_without_empty

pub returns-clause-same_body : goal.returns-clause-same_body
returns-clause-same_body c = body-not_empty

pub returns-clause-ascend : goal.returns-clause-ascend
returns-clause-ascend c = Ascend-not_empty
