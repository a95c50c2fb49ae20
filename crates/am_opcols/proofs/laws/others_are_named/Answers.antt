use Rattle.am_opcols.proofs.NamedAlone.{ascend, members}
use Rattle.am_opcols.proofs.laws.others_are_named.Goals as goal

pub returns-clause-ascend : goal.returns-clause-ascend
returns-clause-ascend c = ascend

pub returns-clause-members : goal.returns-clause-members
returns-clause-members c = members
