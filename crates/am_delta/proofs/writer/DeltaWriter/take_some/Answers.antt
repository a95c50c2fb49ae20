use Rattle.std.proofs.Common.{subst, arith}
use Rattle.am_runs.proofs.Neighbours.{took_more, took_room}
use Rattle.am_runs.proofs.Parts.{all_behind}
use Rattle.am_delta.specs.Deltas.{AreMiddling, stretch}
use Rattle.am_delta.proofs.Steps.{length-stretch, first_middling, steps_middling, stretched, none_both}
use Rattle.am_delta.proofs.Copying.{room_one, room_then}
use Rattle.am_delta.proofs.writer.DeltaWriter.take_some.Goals as goal

pub push-requires-clause-room : goal.push-requires-clause-room
push-requires-clause-room c =
    let next = c.in-Some.ensures.next in
    room_one _ (took_room c.in_ok-k.k 1 c.args.most _ _ _ _ c.in_ok-k.ensures.ok (omega (arith, c.in_ok-k.ensures.few, next.0, next.1)) c.requires.room c.in_ok-k.ensures.failed)

pub push-requires-clause-value : goal.push-requires-clause-value
push-requires-clause-value c =
    let arm = c.in-Some in
    let took = c.in_ok-k.ensures.ok in
    let left = (all_behind _ took.0 _ (subst AreMiddling took.2 c.requires.values)).1 in
    first_middling arm.first arm.difference arm.count (all_behind _ (stretch arm.first arm.difference arm.count) _ (subst AreMiddling arm.ensures.next.3 left)).0

pub push_steps-requires-clause-room : goal.push_steps-requires-clause-room
push_steps-requires-clause-room c =
    let next = c.in-Some.ensures.next in
    room_then _ _ c.in-Some.first c.in-Some.count next.0
    (took_room c.in_ok-k.k c.in-Some.count c.args.most _ _ _ _ c.in_ok-k.ensures.ok (omega (arith, c.in_ok-k.ensures.few, next.1)) c.requires.room c.in_ok-k.ensures.failed)
    (none_both _ _ _ c.in_ok-push-in-Some.ensures.failed) c.in_ok-push-in-Some.ensures.ok

pub push_steps-requires-clause-values : goal.push_steps-requires-clause-values
push_steps-requires-clause-values c =
    let arm = c.in-Some in
    let next = arm.ensures.next in
    let took = c.in_ok-k.ensures.ok in
    let left = (all_behind _ took.0 _ (subst AreMiddling took.2 c.requires.values)).1 in
    steps_middling c.take_differences.new.self _ arm.first arm.difference arm.count next.0 next.2 (all_behind _ (stretch arm.first arm.difference arm.count) _ (subst AreMiddling next.3 left)).0 (none_both _ _ _ c.in_ok-push-in-Some.ensures.failed) c.in_ok-push-in-Some.ensures.ok

pub returns-in_ok-push_steps-in-Some-clause-ok :
    goal.returns-in_ok-push_steps-in-Some-clause-ok
returns-in_ok-push_steps-in-Some-clause-ok c =
    let arm = c.in-Some in
    let next = arm.ensures.next in
    took_more c.in_ok-k.k arm.count _ _ _ (stretch arm.first arm.difference arm.count) _ _ _ c.in_ok-k.ensures.ok (length-stretch arm.first arm.difference arm.count next.0) next.3
    (stretched c.take_differences.new.self _ _ arm.first arm.difference arm.count next.0 next.2 c.in_ok-push-in-Some.ensures.ok c.in_ok-push_steps-in-Some.ensures.ok)
