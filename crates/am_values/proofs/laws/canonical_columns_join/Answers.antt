use Rattle.am_values.proofs.Spelling.{canonical_is_joined}
use Rattle.am_values.proofs.laws.canonical_columns_join.Goals as goal

pub returns : goal.returns
returns c = canonical_is_joined
