use Rattle.std.proofs.Common.{◌↔◌, length}
use Rattle.std.specs.List.{AllByRecursion}
use Rattle.am_types.specs.Values.{Good}
use Rattle.am_types.specs.Fine.{FineOp}
use Rattle.am_change.proofs.fine.are_fine_with_values.Given as goal

abbrev pub invariant-loop-op : goal.invariant-loop-op
invariant-loop-op l = AllByRecursion (λ op. Good op.value) l.rest × (AllByRecursion FineOp l.rest ↔ AllByRecursion FineOp l.fn.ops)

abbrev pub decreases-loop-op : goal.decreases-loop-op
decreases-loop-op l = length l.rest
