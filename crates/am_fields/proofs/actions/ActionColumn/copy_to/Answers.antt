use Rattle.std.proofs.Common.{◌∙◌, length, take, drop, map, Some, ap, arith}
use Rattle.am_fields.specs.Groups.{givens}
use Rattle.am_fields.proofs.GroupLaws.{length-givens, actions_given}
use Rattle.am_fields.proofs.Copies.{first_givens, givens_behind, actions_behind}
use Rattle.am_fields.proofs.Moves.{written_as}
use Rattle.am_fields.proofs.actions.ActionColumn.copy_to.Goals as goal

pub take-requires-clause-enough : goal.take-requires-clause-enough
take-requires-clause-enough c =
    let at = c.self.inside.cursor in
    omega (arith, c.requires.enough, ap length c.self.view_is, length-givens at (actions_given at c.self.invariant), ap length c.again.ensures, ap length c.of-from.ensures)

pub invariant_of-self : goal.invariant_of-self
invariant_of-self c = rw c.skip.ensures (actions_behind c.args.n c.self.inside.cursor c.self.invariant)

pub returns-clause-ok : goal.returns-clause-ok
returns-clause-ok c =
    let at = c.self.inside.cursor in
    written_as c.args.to.now _ _ _ (ap (take c.args.n) (c.of-from.ensures ∙ c.again.ensures) ∙ first_givens c.args.n at (actions_given at c.self.invariant) ∙ ap (λ l. map Some (take c.args.n l)) c.self.view_is) c.in_ok-take.ensures.ok

pub returns-clause-behind : goal.returns-clause-behind
returns-clause-behind c =
    let at = c.self.inside.cursor in
    ap givens c.skip.ensures ∙ givens_behind c.args.n at (actions_given at c.self.invariant) ∙ ap (drop c.args.n) c.self.view_is
