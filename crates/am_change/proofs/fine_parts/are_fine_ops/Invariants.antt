use Rattle.std.proofs.Common.{length}
use Rattle.std.specs.List.{AllByRecursion}
use Rattle.am_types.specs.Fine.{FineOp}
use Rattle.am_change.proofs.fine_parts.are_fine_ops.Given as goal

abbrev pub invariant-loop-op : goal.invariant-loop-op
invariant-loop-op l = (AllByRecursion FineOp l.rest → AllByRecursion FineOp l.ops) × (AllByRecursion FineOp l.ops → AllByRecursion FineOp l.rest)

abbrev pub decreases-loop-op : goal.decreases-loop-op
decreases-loop-op l = length l.rest
