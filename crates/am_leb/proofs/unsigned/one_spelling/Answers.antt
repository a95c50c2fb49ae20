use Rattle.am_leb.proofs.Laws.{IsUleb_iff}
use Rattle.am_leb.proofs.unsigned.one_spelling.Goals as goal

pub returns : goal.returns
returns c = IsUleb_iff
