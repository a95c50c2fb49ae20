use Rattle.std.proofs.Common.{◌++◌, ◌∙◌, length, replicate, ap, sym, arith}
use Rattle.am_fields.proofs.GroupLaws.{length-givens, actions_given}
use Rattle.am_fields.proofs.Runs.{givens_alike, actions_past, first_action}
use Rattle.am_fields.proofs.actions.ActionColumn.next_alike_within.Goals as goal

pub unreachable-requires : goal.unreachable-requires
unreachable-requires c =
    let at = c.self.inside.cursor in
    absurd (omega (arith, c.requires.left, ap length c.self.view_is, length-givens at (actions_given at c.self.invariant), ap length c.in-None.ensures.end.0))

pub action_of-requires : goal.action_of-requires
action_of-requires c =
    let next = c.in-Some.ensures.next in
    first_action c.in-Some.count c.in-Some.item c.self.inside.cursor _ next.2 next.0 c.self.invariant

pub invariant_of-self : goal.invariant_of-self
invariant_of-self c = actions_past c.in-Some.count c.in-Some.item c.self.inside.cursor _ c.in-Some.ensures.next.2 c.self.invariant

pub returns-clause-next : goal.returns-clause-next
returns-clause-next c =
    sym c.self.view_is ∙ givens_alike c.in-Some.count c.action_of.result c.self.inside.cursor _ (c.in-Some.ensures.next.2 ∙ ap (λ item. replicate c.in-Some.count item ++ c.next_alike_within.new.self) c.action_of.ensures)
