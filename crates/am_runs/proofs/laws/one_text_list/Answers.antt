use Rattle.am_runs.proofs.TextSpellings.{one_texts}
use Rattle.am_runs.proofs.laws.one_text_list.Goals as goal

pub returns : goal.returns
returns c = one_texts
