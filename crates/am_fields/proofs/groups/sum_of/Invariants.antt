use Rattle.std.proofs.Common.{◌≡◌, ◌+◌, length}
use Rattle.am_fields.specs.Groups.{counts, total}
use Rattle.am_fields.proofs.groups.sum_of.Given as goal

abbrev pub invariant-loop-rest : goal.invariant-loop-rest
invariant-loop-rest l = l.sum + total (counts l.rest) ≡ total (counts l.column)

abbrev pub decreases-loop-rest : goal.decreases-loop-rest
decreases-loop-rest l = length l.rest
