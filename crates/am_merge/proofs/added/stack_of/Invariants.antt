use Rattle.std.proofs.Common.{◌≡◌, drop, map}
use Rattle.am_merge.specs.Stacks.{stacked}
use Rattle.am_merge.proofs.Aimed.{operation_in}
use Rattle.am_merge.proofs.added.stack_of.Given as goal

abbrev pub invariant-loop-i : goal.invariant-loop-i
invariant-loop-i l = stacked l.all.items ≡ map operation_in (drop l.i l.starts)
