use Rattle.std.proofs.Common.{◌≡◌, map, take}
use Rattle.am_types.specs.Operations.{all_operations}
use Rattle.am_places.specs.Numbered.{operation_of}
use Rattle.am_merge.proofs.added.gather.Given as goal

abbrev pub invariant-loop-i : goal.invariant-loop-i
invariant-loop-i l = map operation_of l.all.items ≡ all_operations (map (λ c. c.now) (take l.i l.changes))
