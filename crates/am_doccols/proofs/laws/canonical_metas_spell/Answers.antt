use Rattle.am_doccols.proofs.MetasSpelled.{metas_spelled}
use Rattle.am_doccols.proofs.laws.canonical_metas_spell.Goals as goal

pub returns : goal.returns
returns c = metas_spelled
