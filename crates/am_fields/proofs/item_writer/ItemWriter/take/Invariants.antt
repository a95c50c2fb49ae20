use Rattle.std.proofs.Common.{◌≡◌, ◌≤◌, ◌-◌, ◌++◌, length, take, drop, Some, None}
use Rattle.std.specs.Prelude.{IfSome, IfNone}
use Rattle.am_fields.proofs.item_writer.ItemWriter.take.Given as goal

abbrev pub invariant-loop-left : goal.invariant-loop-left
invariant-loop-left g l = record {
  few : l.left ≤ l.n;
  enough : l.left ≤ length (g.C.ItemColumn.items l.from);
  behind : g.C.ItemColumn.items l.from ≡ drop (l.n - l.left) (g.C.ItemColumn.items l.fn.from);
  written : IfSome l.fn.self (λ items. l.self ≡ Some (items ++ take (l.n - l.left) (g.C.ItemColumn.items l.fn.from)));
  none : IfNone l.fn.self (l.self ≡ None);
}

abbrev pub decreases-loop-left : goal.decreases-loop-left
decreases-loop-left g l = l.left
