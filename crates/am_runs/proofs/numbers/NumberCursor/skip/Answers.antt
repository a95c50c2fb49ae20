use Rattle.std.proofs.Common.{sym, ap, ◌∙◌, drop}
use Rattle.am_runs.proofs.Taken.{drop_past}
use Rattle.am_runs.proofs.numbers.NumberCursor.skip.Goals as goal

pub loop-n-preserved : goal.loop-n-preserved
loop-n-preserved g c = drop_past c.loop-n.n c.in-Some.k _ c.next_alike_within.new.self c.in-Some.ensures.next.1 ∙ ap (drop c.loop-n.n) (sym c.in-Some.ensures.next.2) ∙ c.loop-n.invariant
