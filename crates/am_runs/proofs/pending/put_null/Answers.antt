use Rattle.am_runs.proofs.Arms.{null_more_at, close_null_at}
use Rattle.am_runs.proofs.pending.put_null.Goals as goal

pub returns-in-Nulls : goal.returns-in-Nulls
returns-in-Nulls g c = λ list h. null_more_at _ _ _ _ _ _ list c.in-Nulls.is h

pub returns-in_ok-close-in_default : goal.returns-in_ok-close-in_default
returns-in_ok-close-in_default g c = λ list h. close_null_at _ _ _ _ _ _ _ list c.in_default.not-Nulls c.in_ok-close-in_default.ensures h
