use Rattle.std.specs.List.{AllWithin}
use Rattle.am_types.specs.Fine.{IsId}
use Rattle.am_change.proofs.fine.are_ids.Given as goal

abbrev pub invariant-loop-i : goal.invariant-loop-i
invariant-loop-i g l = AllWithin IsId (g.O.ReadOp.op l.op).preds 0 l.i
