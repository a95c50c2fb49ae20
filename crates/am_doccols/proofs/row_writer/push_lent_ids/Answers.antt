use Rattle.std.proofs.Common.{◌<◌, ◌^◌, map, option_map, take, length, arith}
use Rattle.std.proofs.lemmas.List.{length-map, length-take-le}
use Rattle.am_types.specs.declared.IdRef.{IdRef}
use Rattle.am_types.specs.Views.{id_of}
use Rattle.am_fields.specs.Columns.{place_of}
use Rattle.am_fields.specs.Layout.{id_actor, id_counter}
use Rattle.am_fields.proofs.WriteLaws.{room_for}
use Rattle.am_doccols.proofs.row_writer.push_lent_ids.Goals as goal

pub push-requires : goal.push-requires
push-requires c =
    let done = take c.loop-id.id-index c.args.ids.now in
    let names = map (λ (i : IdRef). id_actor (id_of i)) done in
    let less : length (map (option_map (place_of c.args.actors.now)) names) < length c.args.ids.now =
    omega (arith, c.loop-id-test.true, length-map names (option_map (place_of c.args.actors.now)), length-map done (λ (i : IdRef). id_actor (id_of i)), length-take-le c.loop-id.id-index c.args.ids.now (omega arith)) in
    room_for c.args.places.now c.loop-id.places (map (option_map (place_of c.args.actors.now)) names) (length c.args.ids.now) (2 ^ 32) c.loop-id.invariant.2 c.loop-id.invariant.0 c.requires.places less

pub push-requires-in-loop-id-clause-room : goal.push-requires-in-loop-id-clause-room
push-requires-in-loop-id-clause-room c =
    let done = take c.loop-id.id-index c.args.ids.now in
    let counters = map (λ (i : IdRef). id_counter (id_of i)) done in
    let less : length counters < length c.args.ids.now = omega (arith, c.loop-id-test.true, length-map done (λ (i : IdRef). id_counter (id_of i)), length-take-le c.loop-id.id-index c.args.ids.now (omega arith)) in
    room_for c.args.counters.now c.loop-id.counters counters (length c.args.ids.now) (2 ^ 32) c.loop-id.invariant.3 c.loop-id.invariant.1 c.requires.counters less
