use Rattle.std.proofs.Common.{◌≡◌, map, take}
use Rattle.am_merge.specs.Naming.{named_of}
use Rattle.am_merge.specs.Stacks.{stacked}
use Rattle.am_merge.specs.Turns.{pushed}
use Rattle.am_merge.proofs.stops.push_each.Given as goal

abbrev pub invariant-loop-i : goal.invariant-loop-i
invariant-loop-i l = stacked l.waiting.items ≡ pushed (map (λ n. (named_of n).operation) (take l.i l.hung)) (stacked l.initial.waiting.items)
