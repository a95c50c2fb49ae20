use Rattle.std.proofs.Common.{◌≡◌, ◌≤◌, ◌-◌, length, take, drop}
use Rattle.am_fields.specs.Groups.{counts, total}
use Rattle.am_fields.proofs.groups.skip_lengths.Given as goal

abbrev pub invariant-loop-left : goal.invariant-loop-left
invariant-loop-left l = record {
  few : l.left ≤ l.n;
  enough : l.left ≤ length l.from;
  behind : l.from ≡ drop (l.n - l.left) l.fn.from;
  sum : l.sum ≡ total (take (l.n - l.left) (counts l.fn.from));
}

abbrev pub decreases-loop-left : goal.decreases-loop-left
decreases-loop-left l = l.left
