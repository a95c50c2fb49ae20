use Rattle.std.proofs.Common.{◌≡◌, map, take}
use Rattle.am_places.specs.Numbered.{operation_of}
use Rattle.am_merge.specs.Mentions.{mentioned}
use Rattle.am_merge.specs.Naming.{predecessors}
use Rattle.am_merge.proofs.mentions.predecessors.Given as goal

abbrev pub invariant-loop-i : goal.invariant-loop-i
invariant-loop-i l = map mentioned l.all.items ≡ predecessors (map operation_of (take l.i l.operations))
