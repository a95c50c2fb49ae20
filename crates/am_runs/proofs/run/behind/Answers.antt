use Rattle.std.proofs.Common.{arith, sym, ◌∙◌}
use Rattle.am_runs.proofs.RunsRead.{behind_items-more, behind_items-stuck, behind_items-none}
use Rattle.am_runs.proofs.run.behind.Goals as goal

pub returns-in-None : goal.returns-in-None
returns-in-None g c = sym (behind_items-stuck _ _ _ (omega arith) c.in-None.ensures) ∙ c.loop-left.invariant

pub loop-left-preserved : goal.loop-left-preserved
loop-left-preserved g c = sym (behind_items-more _ _ _ _ (omega arith) c.in-Some.ensures) ∙ c.loop-left.invariant

pub returns : goal.returns
returns g c = sym (behind_items-none _ _ _ (omega arith)) ∙ c.loop-left.invariant
