use Rattle.std.proofs.Common.{◌≡◌, ◌++◌, length}
use Rattle.std.specs.List.{AllByRecursion}
use Rattle.am_change.specs.Building.{IsOpWithin}
use Rattle.am_change.proofs.copying.ops_in.Given as goal

abbrev pub invariant-loop-op : goal.invariant-loop-op
invariant-loop-op l = (AllByRecursion IsOpWithin l.ops) × (l.copy.items ++ l.ops ≡ l.fn.ops)

abbrev pub decreases-loop-op : goal.decreases-loop-op
decreases-loop-op l = length l.ops
