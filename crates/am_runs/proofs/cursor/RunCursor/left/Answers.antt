use Rattle.std.proofs.Common.{sym, ap, length, ◌∙◌}
use Rattle.am_runs.proofs.Entries.{length-entries}
use Rattle.am_runs.proofs.cursor.RunCursor.left.Goals as goal

pub returns : goal.returns
returns g c = sym (ap length (sym c.self.view_is) ∙ length-entries _ _ _ c.self.invariant)
