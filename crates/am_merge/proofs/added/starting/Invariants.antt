use Rattle.std.proofs.Common.{◌≡◌, filter, map, take}
use Rattle.am_places.specs.Numbered.{operation_of}
use Rattle.am_merge.specs.Walk.{starts}
use Rattle.am_merge.proofs.Aimed.{operation_in}
use Rattle.am_merge.proofs.added.starting.Given as goal

abbrev pub invariant-loop-i : goal.invariant-loop-i
invariant-loop-i l = map operation_in l.all.items ≡ filter starts (map operation_of (take l.i l.operations))
