use Rattle.am_laws.proofs.TableLaws.{table_within}
use Rattle.am_laws.proofs.laws.table_is_within.Goals as goal

pub returns : goal.returns
returns c = table_within
