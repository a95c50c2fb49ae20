use Rattle.std.proofs.Common.{drop, sym, ap, ◌∙◌}
use Rattle.std.proofs.lemmas.List.{drop-drop}
use Rattle.am_view.proofs.objects.Objects.skip.Goals as goal

pub returns-then-n-self : goal.returns-then-n-self
returns-then-n-self c =
    let at = c.self.inside in
    sym (drop-drop c.args.n at.passed at.columns) ∙ ap (drop c.args.n) c.self.view_is

pub returns : goal.returns
returns c =
    let at = c.self.inside in
    c.skip.ensures ∙ sym (drop-drop c.args.n at.passed at.columns) ∙ ap (drop c.args.n) c.self.view_is
