use Rattle.std.proofs.Common.{map}
use Rattle.am_types.specs.Views.{id_of}
use Rattle.am_doccols.proofs.GivenRows.{given_ids, given_keys, given_succs, given_values, takes_given}
use Rattle.am_doccols.proofs.gathered_writing.push_rows.Goals as goal

pub push_fields-requires-clause-room : goal.push_fields-requires-clause-room
push_fields-requires-clause-room c = (c.requires.room).fields

pub push_fields-requires-clause-keys : goal.push_fields-requires-clause-keys
push_fields-requires-clause-keys c = given_keys c.args.actors.now c.args.rows.now (map id_of c.args.added.now) (c.requires.given).all

pub push_fields-requires-clause-values : goal.push_fields-requires-clause-values
push_fields-requires-clause-values c = given_values c.args.actors.now c.args.rows.now (map id_of c.args.added.now) (c.requires.given).all

pub push_ids-requires-clause-places : goal.push_ids-requires-clause-places
push_ids-requires-clause-places c = (c.requires.room).places

pub push_ids-requires-clause-counters : goal.push_ids-requires-clause-counters
push_ids-requires-clause-counters c = (c.requires.room).counters

pub push_ids-requires-clause-ids : goal.push_ids-requires-clause-ids
push_ids-requires-clause-ids c = given_ids c.args.actors.now c.args.rows.now (map id_of c.args.added.now) (c.requires.given).all

pub push_column-requires : goal.push_column-requires
push_column-requires c = (c.requires.room).lengths

pub push_lent_ids-requires-clause-places : goal.push_lent_ids-requires-clause-places
push_lent_ids-requires-clause-places c = (c.requires.room).succ_places

pub push_lent_ids-requires-clause-counters : goal.push_lent_ids-requires-clause-counters
push_lent_ids-requires-clause-counters c = (c.requires.room).succ_counters

pub push_lent_ids-requires-clause-ids : goal.push_lent_ids-requires-clause-ids
push_lent_ids-requires-clause-ids c = given_succs c.args.actors.now c.args.rows.now c.args.added.now c.requires.given

pub returns : goal.returns
returns c =
    takes_given c.args.actors.now c.args.rows.now c.args.added.now c.args.fields.now c.args.ids.now c.args.lengths.now c.args.succs.now _ _ _ _ (c.requires.given).count
    c.in_ok-push_fields.ensures c.in_ok-push_ids.ensures c.in_ok-push_column.ensures c.in_ok-push_lent_ids.ensures.places c.in_ok-push_lent_ids.ensures.counters
