use Rattle.std.proofs.Common.{◌≡◌, drop}
use Rattle.am_runs.proofs.numbers.NumberCursor.skip.Given as goal

abbrev pub invariant-loop-n : goal.invariant-loop-n
invariant-loop-n g l = drop l.n l.self ≡ drop l.initial.n l.initial.self

abbrev pub decreases-loop-n : goal.decreases-loop-n
decreases-loop-n g l = l.n
