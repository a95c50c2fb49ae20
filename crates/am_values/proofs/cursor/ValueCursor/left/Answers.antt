use Rattle.std.proofs.Common.{sym, ap, length, ◌∙◌}
use Rattle.am_values.proofs.Cuts.{length-values}
use Rattle.am_values.proofs.cursor.ValueCursor.left.Goals as goal

pub returns : goal.returns
returns c = c.left.ensures ∙ sym (length-values _ _) ∙ ap length c.self.view_is
