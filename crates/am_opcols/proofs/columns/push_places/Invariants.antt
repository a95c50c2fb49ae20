use Rattle.std.proofs.Common.{◌≡◌, ◌++◌, map, option_map, take}
use Rattle.am_fields.specs.Columns.{place_of}
use Rattle.am_fields.specs.Layout.{id_actor}
use Rattle.am_opcols.proofs.columns.push_places.Given as goal

abbrev pub invariant-loop-i : goal.invariant-loop-i
invariant-loop-i g l = l.room.items ≡ l.initial.room.items ++ map (option_map (place_of l.actors)) (map id_actor (take l.i (g.O.ReadOp.op l.op).preds))
