use Rattle.std.proofs.Common.{◌≡◌, ◌≤◌, ◌-◌, ◌++◌, length, map, take, drop, Some, None}
use Rattle.std.specs.Prelude.{IfSome, IfNone}
use Rattle.am_fields.specs.Groups.{counts, total}
use Rattle.am_fields.proofs.groups.copy_lengths.Given as goal

abbrev pub invariant-loop-left : goal.invariant-loop-left
invariant-loop-left l = record {
  few : l.left ≤ l.n;
  enough : l.left ≤ length l.from;
  behind : l.from ≡ drop (l.n - l.left) l.fn.from;
  sum : l.sum ≡ total (take (l.n - l.left) (counts l.fn.from));
  written : IfSome l.fn.to (λ xs. l.to ≡ Some (xs ++ take (l.n - l.left) (map Some (counts l.fn.from))));
  none : IfNone l.fn.to (l.to ≡ None);
}

abbrev pub decreases-loop-left : goal.decreases-loop-left
decreases-loop-left l = l.left
