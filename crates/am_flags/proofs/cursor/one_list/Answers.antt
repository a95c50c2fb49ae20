use Rattle.std.proofs.Common.{sym, ap, ◌∙◌, false}
use Rattle.am_flags.specs.Flags.{alternating}
use Rattle.am_flags.proofs.Counts.{one_counts, numbers_first}
use Rattle.am_flags.proofs.cursor.one_list.Goals as goal

pub returns : goal.returns
returns c = λ bytes xs ys p q. p.3 ∙ ap (alternating false) (one_counts p.0 q.0 (numbers_first p.0 p.1) (numbers_first q.0 q.1) (sym p.2 ∙ q.2)) ∙ sym q.3
