use Rattle.std.proofs.Common.{◌≡◌, ◌++◌, map, take}
use Rattle.am_fields.specs.Layout.{id_counter}
use Rattle.am_opcols.proofs.columns.push_counters.Given as goal

abbrev pub invariant-loop-i : goal.invariant-loop-i
invariant-loop-i g l = l.room ≡ l.initial.room ++ map id_counter (take l.i (g.O.ReadOp.op l.op).preds)
