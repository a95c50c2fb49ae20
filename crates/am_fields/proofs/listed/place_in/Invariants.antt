use Rattle.std.proofs.Common.{◌≡◌, ◌+◌, ◌-◌, ◌≤◌, length, drop}
use Rattle.am_fields.specs.Columns.{place_of}
use Rattle.am_fields.proofs.listed.place_in.Given as goal

abbrev pub invariant-loop-i : goal.invariant-loop-i
invariant-loop-i l = (l.i ≤ length l.actors) × (place_of l.actors l.actor ≡ l.i + place_of (drop l.i l.actors) l.actor)

abbrev pub decreases-loop-i : goal.decreases-loop-i
decreases-loop-i l = length l.actors - l.i
