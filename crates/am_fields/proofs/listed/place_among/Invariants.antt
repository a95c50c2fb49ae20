use Rattle.std.proofs.Common.{◌≡◌, ◌+◌, ◌-◌, ◌≤◌, length, drop}
use Rattle.am_fields.specs.Columns.{place_of}
use Rattle.am_fields.proofs.listed.place_among.Given as goal

abbrev pub invariant-loop-low : goal.invariant-loop-low
invariant-loop-low l = record {
  order : l.low ≤ l.high;
  within : l.high ≤ length l.actors;
  before : place_of l.actors l.actor ≡ l.low + place_of (drop l.low l.actors) l.actor;
  behind : l.high + place_of (drop l.high l.actors) l.actor ≡ length l.actors;
}

abbrev pub decreases-loop-low : goal.decreases-loop-low
decreases-loop-low l = l.high - l.low
