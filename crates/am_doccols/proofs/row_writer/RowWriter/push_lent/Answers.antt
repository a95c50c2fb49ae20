use Rattle.std.proofs.Common.{map, ap}
use Rattle.am_types.specs.Views.{id_of}
use Rattle.am_doccols.proofs.RowsShort.{columns_open, lent_open, not_failed}
use Rattle.am_doccols.proofs.RowsWritten.{rows_pushed, lent_count, lent_step, lent_within}
use Rattle.am_doccols.proofs.row_writer.RowWriter.push_lent.Goals as goal

pub push-requires-clause-room : goal.push-requires-clause-room
push-requires-clause-room c = (columns_open c.self.inside.failed c.self.inside.actors c.self.inside.fields c.self.inside.ids c.self.inside.lengths c.self.inside.succs c.args.self.now.1 (map id_of c.args.succs.now) c.if-self.false (ap (λ p. p.1) c.self.view_is) c.self.invariant c.requires.room).fields

pub push-requires-clause-key : goal.push-requires-clause-key
push-requires-clause-key c = (c.requires.row).key

pub push-requires-clause-value : goal.push-requires-clause-value
push-requires-clause-value c = (c.requires.row).value

pub push-requires-2-clause-places : goal.push-requires-2-clause-places
push-requires-2-clause-places c = (columns_open c.self.inside.failed c.self.inside.actors c.self.inside.fields c.self.inside.ids c.self.inside.lengths c.self.inside.succs c.args.self.now.1 (map id_of c.args.succs.now) c.if-self.false (ap (λ p. p.1) c.self.view_is) c.self.invariant c.requires.room).places

pub push-requires-2-clause-counters : goal.push-requires-2-clause-counters
push-requires-2-clause-counters c = (columns_open c.self.inside.failed c.self.inside.actors c.self.inside.fields c.self.inside.ids c.self.inside.lengths c.self.inside.succs c.args.self.now.1 (map id_of c.args.succs.now) c.if-self.false (ap (λ p. p.1) c.self.view_is) c.self.invariant c.requires.room).counters

pub push-requires-2-clause-id : goal.push-requires-2-clause-id
push-requires-2-clause-id c = ((c.requires.row).id).within

pub push-requires-3 : goal.push-requires-3
push-requires-3 c = (columns_open c.self.inside.failed c.self.inside.actors c.self.inside.fields c.self.inside.ids c.self.inside.lengths c.self.inside.succs c.args.self.now.1 (map id_of c.args.succs.now) c.if-self.false (ap (λ p. p.1) c.self.view_is) c.self.invariant c.requires.room).lengths

pub push_lent_ids-requires-clause-places : goal.push_lent_ids-requires-clause-places
push_lent_ids-requires-clause-places c = lent_open c.self.inside.succs.places c.args.succs.now (columns_open c.self.inside.failed c.self.inside.actors c.self.inside.fields c.self.inside.ids c.self.inside.lengths c.self.inside.succs c.args.self.now.1 (map id_of c.args.succs.now) c.if-self.false (ap (λ p. p.1) c.self.view_is) c.self.invariant c.requires.room).succ_places

pub push_lent_ids-requires-clause-counters : goal.push_lent_ids-requires-clause-counters
push_lent_ids-requires-clause-counters c = lent_open c.self.inside.succs.counters c.args.succs.now (columns_open c.self.inside.failed c.self.inside.actors c.self.inside.fields c.self.inside.ids c.self.inside.lengths c.self.inside.succs c.args.self.now.1 (map id_of c.args.succs.now) c.if-self.false (ap (λ p. p.1) c.self.view_is) c.self.invariant c.requires.room).succ_counters

pub returns-clause-failed : goal.returns-clause-failed
returns-clause-failed c = not_failed c.self.inside.failed c.self.inside.actors c.self.inside.fields c.self.inside.ids c.self.inside.lengths c.self.inside.succs c.args.self.now.1 _ c.if-self.false (ap (λ p. p.1) c.self.view_is)

pub invariant_of-self-2 : goal.invariant_of-self-2
invariant_of-self-2 c =
    (rows_pushed c.self.inside.failed c.self.inside.actors c.lend-actors.result c.self.inside.fields c.self.inside.ids c.self.inside.lengths c.self.inside.succs c.args.self.now c.args.row (map id_of c.args.succs.now) _ _ _ _
    c.if-self.false (ap (λ p. p.0) c.self.view_is) (ap (λ p. p.1) c.self.view_is) c.self.invariant c.lend-actors.ensures c.requires.row c.requires.room
    (record { fields_step = c.in_ok-push.ensures; id_step = c.in_ok-push-2.ensures; lengths_step = lent_count c.self.inside.lengths _ c.args.succs.now c.in_ok-push-3.ensures.ok; succs_step = lent_step c.lend-actors.result c.self.inside.succs _ c.args.succs.now c.in_ok-push_lent_ids.ensures.places c.in_ok-push_lent_ids.ensures.counters })).0

pub returns-clause-ok : goal.returns-clause-ok
returns-clause-ok c =
    (rows_pushed c.self.inside.failed c.self.inside.actors c.lend-actors.result c.self.inside.fields c.self.inside.ids c.self.inside.lengths c.self.inside.succs c.args.self.now c.args.row (map id_of c.args.succs.now) _ _ _ _
    c.if-self.false (ap (λ p. p.0) c.self.view_is) (ap (λ p. p.1) c.self.view_is) c.self.invariant c.lend-actors.ensures c.requires.row c.requires.room
    (record { fields_step = c.in_ok-push.ensures; id_step = c.in_ok-push-2.ensures; lengths_step = lent_count c.self.inside.lengths _ c.args.succs.now c.in_ok-push-3.ensures.ok; succs_step = lent_step c.lend-actors.result c.self.inside.succs _ c.args.succs.now c.in_ok-push_lent_ids.ensures.places c.in_ok-push_lent_ids.ensures.counters })).1

pub push_lent_ids-requires-clause-ids : goal.push_lent_ids-requires-clause-ids
push_lent_ids-requires-clause-ids c = lent_within c.args.self.now.0 c.args.succs.now c.requires.row.succs
