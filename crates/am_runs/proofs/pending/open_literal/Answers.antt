use Rattle.am_runs.proofs.Arms.{open_literal_at}
use Rattle.am_runs.proofs.pending.open_literal.Goals as goal

pub returns : goal.returns
returns g c = λ list h. open_literal_at _ _ _ _ _ _ _ _ _ _ list c.requires.item c.requires.kind c.requires.other c.in_ok-close.ensures c.in_ok-begin.ensures.front c.in_ok-begin.ensures.last h
