use Rattle.std.proofs.Common.{◌≡◌, ◌++◌, map, take, drop}
use Rattle.am_fits.specs.Runs.{run_below}
use Rattle.am_fits.proofs.runs.cut.Given as goal

abbrev pub invariant-loop-i : goal.invariant-loop-i
invariant-loop-i l = l.runs.items ≡ map (run_below l.bound) (take l.i l.initial.runs.items) ++ drop l.i l.initial.runs.items
