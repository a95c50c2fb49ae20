use Rattle.am_colmeta.specs.Actors.{prefixed}
use Rattle.am_colmeta.proofs.Splitting.{prefixed-Splits, counted-Splits}
use Rattle.am_colmeta.proofs.laws.one_actor_list.Goals as goal

pub returns : goal.returns
returns c = counted-Splits prefixed prefixed-Splits
