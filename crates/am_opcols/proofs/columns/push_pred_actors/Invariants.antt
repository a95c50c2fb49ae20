use Rattle.std.proofs.Common.{◌≡◌, map, option_map, take}
use Rattle.am_fields.specs.Columns.{place_of}
use Rattle.am_fields.specs.Layout.{id_actor, flat}
use Rattle.am_opcols.proofs.columns.push_pred_actors.Given as goal

abbrev pub invariant-loop-op : goal.invariant-loop-op
invariant-loop-op g l = l.room.items ≡ map (option_map (place_of l.actors)) (map id_actor (flat (map (λ o. o.preds) (take l.op-index (map g.O.ReadOp.op l.ops)))))
