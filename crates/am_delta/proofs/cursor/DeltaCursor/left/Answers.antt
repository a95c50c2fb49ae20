use Rattle.std.proofs.Common.{sym, ap, length, ◌∙◌}
use Rattle.am_delta.proofs.Sums.{length-sums}
use Rattle.am_delta.proofs.cursor.DeltaCursor.left.Goals as goal

pub returns : goal.returns
returns c = c.left.ensures ∙ sym (length-sums _ _) ∙ ap length c.self.view_is
