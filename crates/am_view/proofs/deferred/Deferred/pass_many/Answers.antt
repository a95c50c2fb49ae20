use Rattle.std.proofs.Common.{drop, sym, ap, ◌∙◌}
use Rattle.std.proofs.lemmas.List.{drop-drop}
use Rattle.am_view.proofs.deferred.Deferred.pass_many.Goals as goal

pub returns : goal.returns
returns g c = sym (drop-drop c.args.n c.self.inside.owed (g.C.Items.values c.self.inside.columns)) ∙ ap (drop c.args.n) c.self.view_is
