use Rattle.std.proofs.Common.{◌↔◌, length, pos}
use Rattle.am_delta.specs.Deltas.{AllBetween, sums_from}
use Rattle.am_delta.proofs.between.stays_between.Given as goal

abbrev pub invariant-loop-difference : goal.invariant-loop-difference
invariant-loop-difference l =
    AllBetween l.low l.high (sums_from l.value l.differences) ↔ AllBetween l.low l.high (sums_from (pos 0) l.initial.differences)

abbrev pub decreases-loop-difference : goal.decreases-loop-difference
decreases-loop-difference l = length l.differences
