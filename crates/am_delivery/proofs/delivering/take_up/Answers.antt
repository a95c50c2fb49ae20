use Rattle.std.proofs.Common.{rules, ◌++◌, vec_items, refl}
use Rattle.am_types.specs.Deliver.{Sets}
use Rattle.am_delivery.specs.Waiting.{members_of, waiting_of, remaining, all_gone}
use Rattle.am_delivery.proofs.AtRest.{within_all}
use Rattle.am_delivery.proofs.Ends.{from_nothing, waits, ends_closed, ends_waiting, ends_rejected, ends_stored}
use Rattle.am_delivery.proofs.Keeping.{received_within}
use Rattle.am_delivery.proofs.delivering.take_up.Goals as goal

pub bring_to_rest-requires-clause-waits : goal.bring_to_rest-requires-clause-waits
bring_to_rest-requires-clause-waits g c =
    let C = g.S.Closed.members c.args.closed.now in
    let W = waiting_of c.args.waiting.now in
    let L = members_of (vec_items c.args.changes) in
    let t : Sets = record { closed = C; waiting = waiting_of c.receive_all.new.waiting; rejected = vec_items c.receive_all.new.rejected } in
    waits C W L c.requires.stored c.requires.may_come t refl (from_nothing C W L t (vec_items c.new-rejected.result) (search rules) c.in_ok-receive_all.ensures.alike)

pub returns-clause-closed : goal.returns-clause-closed
returns-clause-closed g c =
    let C = g.S.Closed.members c.args.closed.now in
    let W = waiting_of c.args.waiting.now in
    let L = members_of (vec_items c.args.changes) in
    let t : Sets = record { closed = C; waiting = waiting_of c.receive_all.new.waiting; rejected = vec_items c.receive_all.new.rejected } in
    let new : Sets = record { closed = g.S.Closed.members c.bring_to_rest.new.closed; waiting = remaining (all_gone c.in_ok-outcome.outcome.gone) (waiting_of c.receive_all.new.waiting); rejected = vec_items c.in_ok-outcome.outcome.rejected } in
    ends_closed C W L c.requires.stored c.requires.may_come t refl (from_nothing C W L t (vec_items c.new-rejected.result) (search rules) c.in_ok-receive_all.ensures.alike) new c.in_ok-outcome.ensures.settles

pub returns-clause-waiting : goal.returns-clause-waiting
returns-clause-waiting g c =
    let C = g.S.Closed.members c.args.closed.now in
    let W = waiting_of c.args.waiting.now in
    let L = members_of (vec_items c.args.changes) in
    let t : Sets = record { closed = C; waiting = waiting_of c.receive_all.new.waiting; rejected = vec_items c.receive_all.new.rejected } in
    let new : Sets = record { closed = g.S.Closed.members c.bring_to_rest.new.closed; waiting = remaining (all_gone c.in_ok-outcome.outcome.gone) (waiting_of c.receive_all.new.waiting); rejected = vec_items c.in_ok-outcome.outcome.rejected } in
    ends_waiting C W L c.requires.stored c.requires.may_come t refl (from_nothing C W L t (vec_items c.new-rejected.result) (search rules) c.in_ok-receive_all.ensures.alike) new c.in_ok-outcome.ensures.settles

pub returns-clause-rejected : goal.returns-clause-rejected
returns-clause-rejected g c =
    let C = g.S.Closed.members c.args.closed.now in
    let W = waiting_of c.args.waiting.now in
    let L = members_of (vec_items c.args.changes) in
    let t : Sets = record { closed = C; waiting = waiting_of c.receive_all.new.waiting; rejected = vec_items c.receive_all.new.rejected } in
    let new : Sets = record { closed = g.S.Closed.members c.bring_to_rest.new.closed; waiting = remaining (all_gone c.in_ok-outcome.outcome.gone) (waiting_of c.receive_all.new.waiting); rejected = vec_items c.in_ok-outcome.outcome.rejected } in
    ends_rejected C W L c.requires.stored c.requires.may_come t refl (from_nothing C W L t (vec_items c.new-rejected.result) (search rules) c.in_ok-receive_all.ensures.alike) new c.in_ok-outcome.ensures.settles

pub returns-clause-stored : goal.returns-clause-stored
returns-clause-stored g c =
    let C = g.S.Closed.members c.args.closed.now in
    let W = waiting_of c.args.waiting.now in
    let L = members_of (vec_items c.args.changes) in
    let t : Sets = record { closed = C; waiting = waiting_of c.receive_all.new.waiting; rejected = vec_items c.receive_all.new.rejected } in
    let new : Sets = record { closed = g.S.Closed.members c.bring_to_rest.new.closed; waiting = remaining (all_gone c.in_ok-outcome.outcome.gone) (waiting_of c.receive_all.new.waiting); rejected = vec_items c.in_ok-outcome.outcome.rejected } in
    ends_stored C W L c.requires.stored c.requires.may_come t refl (from_nothing C W L t (vec_items c.new-rejected.result) (search rules) c.in_ok-receive_all.ensures.alike) new c.in_ok-outcome.ensures.settles

pub bring_to_rest-requires-clause-admitted : goal.bring_to_rest-requires-clause-admitted
bring_to_rest-requires-clause-admitted g c =
    let W = waiting_of c.args.waiting.now in
    let L = members_of (vec_items c.args.changes) in
    let s : Sets = record { closed = g.S.Closed.members c.args.closed.now; waiting = W; rejected = vec_items c.new-rejected.result } in
    let t : Sets = record { closed = g.S.Closed.members c.args.closed.now; waiting = waiting_of c.receive_all.new.waiting; rejected = vec_items c.receive_all.new.rejected } in
    within_all g.S.Closed.admits (waiting_of c.receive_all.new.waiting) (W ++ L) (received_within s t W L refl c.in_ok-receive_all.ensures.alike) c.requires.admitted
