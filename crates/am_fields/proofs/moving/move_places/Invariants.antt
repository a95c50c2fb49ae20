use Rattle.std.proofs.Common.{◌≡◌, ◌≤◌, ◌-◌, ◌++◌, length, map, take, drop, Some, None}
use Rattle.std.specs.Prelude.{IfSome, IfNone}
use Rattle.am_fields.specs.Moving.{moved}
use Rattle.am_fields.proofs.moving.move_places.Given as goal

abbrev pub invariant-loop-left : goal.invariant-loop-left
invariant-loop-left l = record {
  few : l.left ≤ l.n;
  enough : l.left ≤ length l.from;
  same : l.known ≡ l.fn.known;
  behind : l.from ≡ drop (l.n - l.left) l.fn.from;
  written : IfSome l.fn.places (λ items. l.places ≡ Some (items ++ take (l.n - l.left) (map (moved l.fn.known l.actors) l.fn.from)));
  none : IfNone l.fn.places (l.places ≡ None);
}

abbrev pub decreases-loop-left : goal.decreases-loop-left
decreases-loop-left l = l.left
