use Rattle.std.proofs.Common.{arith, sym, ◌∙◌}
use Rattle.am_runs.proofs.Sights.{unlike_items-more, unlike_items-stuck, unlike_items-none}
use Rattle.am_runs.proofs.judge.last_unlike.Goals as goal

pub returns-in-None : goal.returns-in-None
returns-in-None g c = sym (unlike_items-stuck _ _ _ _ (omega arith) c.in-None.ensures) ∙ c.loop-left.invariant

pub loop-left-preserved : goal.loop-left-preserved
loop-left-preserved g c = sym (unlike_items-more _ _ _ _ _ _ (omega arith) c.in-Some.ensures) ∙ c.loop-left.invariant

pub returns : goal.returns
returns g c = sym (unlike_items-none _ _ _ _ (omega arith)) ∙ c.loop-left.invariant
