use Rattle.am_laws.proofs.Whole.{all_are_ancestors, heads_are_held}
use Rattle.am_laws.proofs.laws.heads_reach_all.Goals as goal

pub returns : goal.returns
returns c = λ C v. (all_are_ancestors C v, heads_are_held C v)
