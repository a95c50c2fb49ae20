use Rattle.am_doccols.proofs.RowsSpelled.{rows_spelled}
use Rattle.am_doccols.proofs.laws.canonical_rows_spell.Goals as goal

pub returns : goal.returns
returns c = rows_spelled
