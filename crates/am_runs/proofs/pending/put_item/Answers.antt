use Rattle.std.proofs.Common.{sym, ◌∙◌}
use Rattle.am_runs.proofs.Arms.{repeat_more_at}
use Rattle.am_runs.proofs.pending.put_item.Goals as goal

pub returns-then-is_same-2 : goal.returns-then-is_same-2
returns-then-is_same-2 g c = λ list h. repeat_more_at _ _ _ _ _ _ _ list c.in-Repeat.is (sym c.last-in-Repeat.ensures ∙ c.is_same-in-Repeat.ensures.0 c.if-is_same-2.true) h
