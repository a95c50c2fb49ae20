use Rattle.std.proofs.Common.{◌≡◌, take}
use Rattle.am_rebuild.proofs.owned.preds_owned.Given as goal

abbrev pub invariant-loop-i : goal.invariant-loop-i
invariant-loop-i g l = l.preds.items ≡ take l.i (g.O.ReadOp.op l.op).preds
