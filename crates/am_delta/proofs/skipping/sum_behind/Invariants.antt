use Rattle.std.proofs.Common.{◌≡◌, take, drop}
use Rattle.am_delta.specs.Deltas.{AllFit, sums_from, last_from}
use Rattle.am_delta.proofs.skipping.sum_behind.Given as goal

abbrev pub invariant-loop-n : goal.invariant-loop-n
invariant-loop-n l =
    AllFit (sums_from l.value l.differences)
    × (drop l.n (sums_from l.value l.differences) ≡ drop l.initial.n (sums_from l.initial.value l.initial.differences))
    × (last_from l.value (sums_from l.value (take l.n l.differences)) ≡ last_from l.initial.value (sums_from l.initial.value (take l.initial.n l.initial.differences)))

abbrev pub decreases-loop-n : goal.decreases-loop-n
decreases-loop-n l = l.n
