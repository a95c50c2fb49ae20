use Rattle.std.proofs.Common.{◌≡◌, take, true}
use Rattle.std.specs.List.{list_all}
use Rattle.am_types.specs.Operations.{slot}
use Rattle.am_fits.specs.Told.{told, own, gives_to}
use Rattle.am_fits.proofs.known.preds_are_known.Given as goal

abbrev pub invariant-loop-i : goal.invariant-loop-i
invariant-loop-i g l = record {
  same : l.ancestors ≡ l.fn.ancestors;
  known : list_all (λ p. told l.fn.ancestors.clock l.fn.ancestors.facts (g.C.ReadChange.change l.change) l.place p (gives_to (g.C.Op.ReadOp.op l.op).obj (slot (own (g.C.ReadChange.change l.change) l.place (g.C.Op.ReadOp.op l.op))))) (take l.i (g.C.Op.ReadOp.op l.op).preds) ≡ true;
}
