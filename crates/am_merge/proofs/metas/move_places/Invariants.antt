use Rattle.std.proofs.Common.{◌≡◌, ◌++◌, length, map}
use Rattle.am_merge.specs.ChangeRows.{moved_to}
use Rattle.am_merge.proofs.metas.move_places.Given as goal

abbrev pub invariant-loop-i : goal.invariant-loop-i
invariant-loop-i l = l.moved.items ++ map (moved_to l.places) l.rest ≡ map (moved_to l.places) l.fn.from

abbrev pub decreases-loop-i : goal.decreases-loop-i
decreases-loop-i l = length l.rest
