use Rattle.std.proofs.Common.{ap}
use Rattle.am_doccols.proofs.RowsShort.{columns_open, not_failed}
use Rattle.am_doccols.proofs.RowsWritten.{rows_pushed}
use Rattle.am_doccols.proofs.row_writer.RowWriter.push.Goals as goal

pub push-requires-clause-room : goal.push-requires-clause-room
push-requires-clause-room c = (columns_open c.self.inside.failed c.self.inside.actors c.self.inside.fields c.self.inside.ids c.self.inside.lengths c.self.inside.succs c.args.self.now.1 c.args.succs.now c.if-self.false (ap (λ p. p.1) c.self.view_is) c.self.invariant c.requires.room).fields

pub push-requires-clause-key : goal.push-requires-clause-key
push-requires-clause-key c = (c.requires.row).key

pub push-requires-clause-value : goal.push-requires-clause-value
push-requires-clause-value c = (c.requires.row).value

pub push-requires-2-clause-places : goal.push-requires-2-clause-places
push-requires-2-clause-places c = (columns_open c.self.inside.failed c.self.inside.actors c.self.inside.fields c.self.inside.ids c.self.inside.lengths c.self.inside.succs c.args.self.now.1 c.args.succs.now c.if-self.false (ap (λ p. p.1) c.self.view_is) c.self.invariant c.requires.room).places

pub push-requires-2-clause-counters : goal.push-requires-2-clause-counters
push-requires-2-clause-counters c = (columns_open c.self.inside.failed c.self.inside.actors c.self.inside.fields c.self.inside.ids c.self.inside.lengths c.self.inside.succs c.args.self.now.1 c.args.succs.now c.if-self.false (ap (λ p. p.1) c.self.view_is) c.self.invariant c.requires.room).counters

pub push-requires-2-clause-id : goal.push-requires-2-clause-id
push-requires-2-clause-id c = ((c.requires.row).id).within

pub push-requires-3 : goal.push-requires-3
push-requires-3 c = (columns_open c.self.inside.failed c.self.inside.actors c.self.inside.fields c.self.inside.ids c.self.inside.lengths c.self.inside.succs c.args.self.now.1 c.args.succs.now c.if-self.false (ap (λ p. p.1) c.self.view_is) c.self.invariant c.requires.room).lengths

pub push_all-requires-clause-places : goal.push_all-requires-clause-places
push_all-requires-clause-places c = (columns_open c.self.inside.failed c.self.inside.actors c.self.inside.fields c.self.inside.ids c.self.inside.lengths c.self.inside.succs c.args.self.now.1 c.args.succs.now c.if-self.false (ap (λ p. p.1) c.self.view_is) c.self.invariant c.requires.room).succ_places

pub push_all-requires-clause-counters : goal.push_all-requires-clause-counters
push_all-requires-clause-counters c = (columns_open c.self.inside.failed c.self.inside.actors c.self.inside.fields c.self.inside.ids c.self.inside.lengths c.self.inside.succs c.args.self.now.1 c.args.succs.now c.if-self.false (ap (λ p. p.1) c.self.view_is) c.self.invariant c.requires.room).succ_counters

pub returns-clause-failed : goal.returns-clause-failed
returns-clause-failed c = not_failed c.self.inside.failed c.self.inside.actors c.self.inside.fields c.self.inside.ids c.self.inside.lengths c.self.inside.succs c.args.self.now.1 _ c.if-self.false (ap (λ p. p.1) c.self.view_is)

pub invariant_of-self-2 : goal.invariant_of-self-2
invariant_of-self-2 c =
    (rows_pushed c.self.inside.failed c.self.inside.actors c.lend-actors.result c.self.inside.fields c.self.inside.ids c.self.inside.lengths c.self.inside.succs c.args.self.now c.args.row c.args.succs.now _ _ _ _
    c.if-self.false (ap (λ p. p.0) c.self.view_is) (ap (λ p. p.1) c.self.view_is) c.self.invariant c.lend-actors.ensures c.requires.row c.requires.room
    (record { fields_step = c.in_ok-push.ensures; id_step = c.in_ok-push-2.ensures; lengths_step = c.in_ok-push-3.ensures.ok; succs_step = c.in_ok-push_all.ensures })).0

pub returns-clause-ok : goal.returns-clause-ok
returns-clause-ok c =
    (rows_pushed c.self.inside.failed c.self.inside.actors c.lend-actors.result c.self.inside.fields c.self.inside.ids c.self.inside.lengths c.self.inside.succs c.args.self.now c.args.row c.args.succs.now _ _ _ _
    c.if-self.false (ap (λ p. p.0) c.self.view_is) (ap (λ p. p.1) c.self.view_is) c.self.invariant c.lend-actors.ensures c.requires.row c.requires.room
    (record { fields_step = c.in_ok-push.ensures; id_step = c.in_ok-push-2.ensures; lengths_step = c.in_ok-push-3.ensures.ok; succs_step = c.in_ok-push_all.ensures })).1
