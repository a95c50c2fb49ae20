use Rattle.am_opcols.proofs.WrittenOps.{ops_spelled}
use Rattle.am_opcols.proofs.laws.canonical_columns_spell.Goals as goal

pub returns : goal.returns
returns c = ops_spelled
