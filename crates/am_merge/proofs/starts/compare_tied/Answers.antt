use Rattle.std.proofs.Common.{◌∙◌, ap, sym}
use Rattle.am_merge.specs.Fronts.{is_root}
use Rattle.am_merge.proofs.Keys.{tied_in_root}
use Rattle.am_merge.proofs.starts.compare_tied.Goals as goal

pub returns-then-a : goal.returns-then-a
returns-then-a c =
    c.compare_in_lane.ensures
    ∙ sym (tied_in_root c.args.a.now.operation c.args.b.now.operation c.requires.bytes.0 c.requires.bytes.1
    (ap (λ p. is_root p.operation.op.obj) (sym c.a.view_is) ∙ sym c.a.invariant.5 ∙ c.if-a.true) c.requires.key)
