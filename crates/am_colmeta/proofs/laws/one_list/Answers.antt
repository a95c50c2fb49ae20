use Rattle.am_colmeta.specs.Metadata.{pair_bytes}
use Rattle.am_colmeta.proofs.Splitting.{pair-Splits, counted-Splits}
use Rattle.am_colmeta.proofs.laws.one_list.Goals as goal

pub returns : goal.returns
returns c = counted-Splits pair_bytes pair-Splits
