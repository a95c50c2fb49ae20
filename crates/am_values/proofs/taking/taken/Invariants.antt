use Rattle.std.proofs.Common.{◌≡◌, ◌≤◌, ◌-◌, ◌++◌, length, take, drop, map, Some, None}
use Rattle.std.specs.Prelude.{IfSome, IfNone}
use Rattle.am_values.specs.Cutting.{AreCut, widths}
use Rattle.am_values.specs.Writing.{spelled}
use Rattle.am_values.proofs.taking.taken.Given as goal

abbrev pub invariant-loop-left : goal.invariant-loop-left
invariant-loop-left l = record {
  few : l.left ≤ l.n;
  enough : l.left ≤ length l.from;
  cut : AreCut l.from l.rest;
  behind : l.from ≡ drop (l.n - l.left) l.fn.from;
  raw : l.rest ≡ drop (widths (take (l.n - l.left) l.fn.from)) l.fn.raw;
  written : IfSome l.fn.numbers (λ list. l.numbers ≡ Some (list ++ take (l.n - l.left) (map spelled l.fn.from)));
  none : IfNone l.fn.numbers (l.numbers ≡ None);
}

abbrev pub decreases-loop-left : goal.decreases-loop-left
decreases-loop-left l = l.left
