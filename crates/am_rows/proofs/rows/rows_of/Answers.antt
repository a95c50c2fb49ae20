use Rattle.std.proofs.Common.{◌≡◌, ◌∙◌, ap, subst, IfOk}
use Rattle.am_types.specs.Operations.{all_operations}
use Rattle.am_rows.specs.Making.{rows_in}
use Rattle.am_rows.proofs.Made.{rows_are}
use Rattle.am_rows.proofs.rows.rows_of.Goals as goal

pub returns : goal.returns
returns c = record { rows = subst (λ rs. IfOk c.rows_in.result (λ rows. rows ≡ rs)) (ap rows_in c.in_ok-operations.ensures.operations ∙ rows_are (all_operations c.args.changes.now)) c.rows_in.ensures }
