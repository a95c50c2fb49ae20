use Rattle.std.proofs.Common.{◌≡◌, take}
use Rattle.am_places.specs.Numbered.{ids_of}
use Rattle.am_rows.proofs.rows.ids_of.Given as goal

abbrev pub invariant-loop-i : goal.invariant-loop-i
invariant-loop-i l = l.ids ≡ ids_of (take l.i l.operations)
