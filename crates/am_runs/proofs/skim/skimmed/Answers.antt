use Rattle.std.proofs.Common.{ap, refl, sym, ◌∙◌, Some, drop, arith, length-drop}
use Rattle.std.proofs.lemmas.List.{take_all}
use Rattle.am_runs.proofs.Skimmed.{singles}
use Rattle.am_runs.proofs.skim.skimmed.Goals as goal

pub returns-then-are_single : goal.returns-then-are_single
returns-then-are_single g c =
    singles g.K.Number.end_of g.met.K.Number.single c.args.count c.args.bytes.now (c.if-are_single.ensures refl).0 (c.if-are_single.ensures refl).1
    ∙ ap Some (sym (take_all _ (drop c.args.count c.args.bytes.now) (omega (arith, length-drop c.args.count c.args.bytes.now))))
