use Rattle.std.proofs.Common.{take, sym, ap, ◌∙◌, ◌-◌}
use Rattle.am_types.specs.Views.{object_of}
use Rattle.am_view.proofs.LetterRows.{alike_left}
use Rattle.am_view.proofs.objects.Objects.known_alike.Goals as goal

pub returns-clause-like : goal.returns-clause-like
returns-clause-like c =
    let at = c.self.inside in
    ap (take (at.alike - at.passed)) (sym c.self.view_is) ∙ alike_left at.passed at.alike (object_of at.object) at.columns c.self.invariant.0 c.self.invariant.2
