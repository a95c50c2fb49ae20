use Rattle.std.proofs.Common.{◌≡◌, drop}
use Rattle.am_values.specs.Cutting.{AreCut, values_from}
use Rattle.am_values.proofs.cutting.raw_behind.Given as goal

abbrev pub invariant-loop-n : goal.invariant-loop-n
invariant-loop-n l = AreCut l.numbers l.rest × (drop l.n (values_from l.numbers l.rest) ≡ drop l.initial.n (values_from l.initial.numbers l.initial.raw))

abbrev pub decreases-loop-n : goal.decreases-loop-n
decreases-loop-n l = l.n
