use Rattle.std.proofs.Common.{◌≡◌, map, take}
use Rattle.am_fields.specs.Layout.{id_counter, flat}
use Rattle.am_opcols.proofs.columns.push_pred_counters.Given as goal

abbrev pub invariant-loop-op : goal.invariant-loop-op
invariant-loop-op g l = l.room ≡ map id_counter (flat (map (λ o. o.preds) (take l.op-index (map g.O.ReadOp.op l.ops))))
