use Rattle.std.proofs.Common.{◌≡◌, map, take}
use Rattle.am_merge.specs.Mentions.{mentioned}
use Rattle.am_merge.specs.Naming.{named_of}
use Rattle.am_merge.proofs.mentions.namings_of.Given as goal

abbrev pub invariant-loop-i : goal.invariant-loop-i
invariant-loop-i l = map named_of l.all.items ≡ map mentioned (take l.i l.mentions)
