use Rattle.std.proofs.Common.{◌≡◌, ◌∙◌, map, ap, subst, IfOk}
use Rattle.am_types.specs.Operations.{all_operations}
use Rattle.am_rows.specs.Making.{rows_in}
use Rattle.am_rows.proofs.Made.{rows_are}
use Rattle.am_rows.proofs.lent.lent_rows.Goals as goal

pub returns : goal.returns
returns c = record { rows = subst (λ rs. IfOk c.over.result (λ rows. rows ≡ rs)) (ap rows_in c.in_ok-operations.ensures.operations ∙ rows_are (all_operations (map (λ c. c.now) c.args.changes.now))) c.over.ensures }
