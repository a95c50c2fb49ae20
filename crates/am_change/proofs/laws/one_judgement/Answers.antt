use Rattle.am_change.proofs.Parsing as parsing
use Rattle.am_change.proofs.laws.one_judgement.Goals as goal

pub returns : goal.returns
returns c = parsing.one_judgement
