use Rattle.std.proofs.Common.{refl}
use Rattle.am_fields.proofs.GivenAlike.{actions_before}
use Rattle.am_fields.proofs.Runs.{actions_past, first_action}
use Rattle.am_fields.proofs.actions.are_actions.Goals as goal

pub returns-then-not-is_action : goal.returns-then-not-is_action
returns-then-not-is_action c =
    let next = c.in-Some.ensures.next in (
      λ e. absurd (cc),
      λ all. absurd (cc (c.if-not-is_action.ensures.1 (first_action _ c.in-Some.item c.loop-item.rest c.next_alike_within.new.self next.2 next.0 (c.loop-item.invariant.1 all)))),
    )

pub loop-item-preserved : goal.loop-item-preserved
loop-item-preserved c =
    let next = c.in-Some.ensures.next in
    let inv = c.loop-item.invariant in (
      λ all. inv.0 (actions_before _ c.in-Some.item c.loop-item.rest c.next_alike_within.new.self next.2 (c.if-not-is_action.ensures.0 refl) all),
      λ all. actions_past _ c.in-Some.item c.loop-item.rest c.next_alike_within.new.self next.2 (inv.1 all),
    )
