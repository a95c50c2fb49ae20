use Rattle.std.proofs.Common.{◌≡◌, ◌++◌, filter, map, take}
use Rattle.am_places.specs.Numbered.{operation_of}
use Rattle.am_merge.specs.Mentions.{mentioned}
use Rattle.am_merge.specs.Naming.{references}
use Rattle.am_merge.specs.Walk.{inserts}
use Rattle.am_merge.proofs.mentions.push_insertions.Given as goal

abbrev pub invariant-loop-i : goal.invariant-loop-i
invariant-loop-i l = map mentioned l.all.items ≡ map mentioned l.initial.all.items ++ references (filter inserts (map operation_of (take l.i l.operations)))
