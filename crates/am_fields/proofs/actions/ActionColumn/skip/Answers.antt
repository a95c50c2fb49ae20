use Rattle.std.proofs.Common.{◌∙◌, drop, ap}
use Rattle.am_fields.specs.Groups.{givens}
use Rattle.am_fields.proofs.GroupLaws.{actions_given}
use Rattle.am_fields.proofs.Copies.{givens_behind, actions_behind}
use Rattle.am_fields.proofs.actions.ActionColumn.skip.Goals as goal

pub invariant_of-self : goal.invariant_of-self
invariant_of-self c = rw c.skip.ensures (actions_behind c.args.n c.self.inside.cursor c.self.invariant)

pub returns : goal.returns
returns c =
    let at = c.self.inside.cursor in
    ap givens c.skip.ensures ∙ givens_behind c.args.n at (actions_given at c.self.invariant) ∙ ap (drop c.args.n) c.self.view_is
