use Rattle.am_values.proofs.Spelling.{one_canonical}
use Rattle.am_values.proofs.laws.one_canonical_spelling.Goals as goal

pub returns : goal.returns
returns c = one_canonical
