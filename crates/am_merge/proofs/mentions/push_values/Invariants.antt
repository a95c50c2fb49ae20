use Rattle.std.proofs.Common.{◌≡◌, ◌++◌, drop, filter, map, reverse}
use Rattle.am_places.specs.Numbered.{operation_of}
use Rattle.am_merge.specs.Mentions.{mentioned}
use Rattle.am_merge.specs.Naming.{references}
use Rattle.am_merge.specs.Walk.{gives_value}
use Rattle.am_merge.proofs.mentions.push_values.Given as goal

abbrev pub invariant-loop-i : goal.invariant-loop-i
invariant-loop-i l = map mentioned l.all.items ≡ map mentioned l.initial.all.items ++ references (filter gives_value (reverse (map operation_of (drop l.i l.operations))))
