use Rattle.std.proofs.Common.{◌≡◌, ◌++◌, length}
use Rattle.am_rebuild.proofs.lent.rows_in.Given as goal

abbrev pub invariant-loop-alloc : goal.invariant-loop-alloc
invariant-loop-alloc l = l.lent.items ++ l.rest ≡ l.fn.rows

abbrev pub decreases-loop-alloc : goal.decreases-loop-alloc
decreases-loop-alloc l = length l.rest
