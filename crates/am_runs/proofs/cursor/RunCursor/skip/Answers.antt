use Rattle.std.proofs.Common.{arith, sym, ap, ◌∙◌, ◌≡◌, drop, length, min}
use Rattle.std.proofs.lemmas.Grind.{common_steps}
use Rattle.am_runs.proofs.Entries.{length-entries}
use Rattle.am_runs.proofs.Jumping.{drop_least}
use Rattle.am_runs.proofs.cursor.RunCursor.skip.Goals as goal

pub returns : goal.returns
returns g c =
    let e : c.min.result ≡ min c.args.n c.self.inside.left = grind (arith, common_steps) in
    c.place_behind-left.ensures.drops ∙ ap (drop c.min.result) c.self.view_is
    ∙ drop_least c.args.self.now c.args.n c.self.inside.left c.min.result (sym (length-entries _ _ _ c.self.invariant) ∙ ap length c.self.view_is) e
