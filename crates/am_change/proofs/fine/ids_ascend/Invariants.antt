use Rattle.std.proofs.Common.{◌≡◌, ◌≤◌}
use Rattle.std.specs.List.{AllAdjacentBelow}
use Rattle.std.specs.declared.cmp.Ordering.TheVariants.{Less}
use Rattle.am_types.specs.Order.{id_cmp}
use Rattle.am_change.proofs.fine.ids_ascend.Given as goal

abbrev pub invariant-loop-i : goal.invariant-loop-i
invariant-loop-i g l = record {
  some : 1 ≤ l.i;
  up : AllAdjacentBelow (λ x y. id_cmp x y ≡ Less) (g.O.ReadOp.op l.op).preds l.i;
}
