use Rattle.std.proofs.Common.{map, length, sym, ap, subst, ◌∙◌}
use Rattle.std.specs.List.{zip}
use Rattle.std.proofs.lemmas.List.{length-map}
use Rattle.am_fields.specs.Fields.{key_read}
use Rattle.am_fields.specs.Layout.{key_actor, key_counter, key_string}
use Rattle.am_fields.specs.Spelling.{SpellsKeys}
use Rattle.am_fields.proofs.Bounds.{counters_fit}
use Rattle.am_fields.proofs.Readings.{length-readings}
use Rattle.am_fields.proofs.IdLaws.{SpellsKeys-readings, keys-if_spelled, keys_between, places_spelled}
use Rattle.am_fields.proofs.keys.PlacedColumns+KeyCells.spelled.Goals as goal

pub spelled-places-requires : goal.spelled-places-requires
spelled-places-requires c =
    let known = c.requires.1 in
    let places = places_spelled c.args.actors.now c.args.actor.now key_actor c.requires.0 known.actor_column in
    (places.0, places.1, places.2 ∙ c.requires.2)

pub spelled-counter-requires : goal.spelled-counter-requires
spelled-counter-requires c =
    let known = c.requires.1 in
    (map key_counter c.requires.0, known.counter_column, length-map c.requires.0 key_counter ∙ c.requires.2, counters_fit (map key_counter c.requires.0) (keys_between c.requires.0 known.within))

pub spelled-name-requires : goal.spelled-name-requires
spelled-name-requires c =
    let known = c.requires.1 in
    (map key_string c.requires.0, known.string_column, length-map c.requires.0 key_string ∙ c.requires.2)

pub known-requires : goal.known-requires
known-requires c = keys-if_spelled c.args.actors.now c.args.actor.now c.args.counter.now c.args.name.now c.spelled-places.result c.spelled-counter.result c.spelled-name.result c.spelled-places.ensures.spelled c.spelled-counter.ensures.spelled c.spelled-name.ensures.spelled c.requires.0 c.requires.1 (c.spelled-places.ensures.count ∙ sym c.requires.2) (c.spelled-counter.ensures.count ∙ sym c.requires.2) (c.spelled-name.ensures.count ∙ sym c.requires.2)

pub returns-clause-spelled : goal.returns-clause-spelled
returns-clause-spelled c =
    let all = keys-if_spelled c.args.actors.now c.args.actor.now c.args.counter.now c.args.name.now c.spelled-places.result c.spelled-counter.result c.spelled-name.result c.spelled-places.ensures.spelled c.spelled-counter.ensures.spelled c.spelled-name.ensures.spelled c.requires.0 c.requires.1 (c.spelled-places.ensures.count ∙ sym c.requires.2) (c.spelled-counter.ensures.count ∙ sym c.requires.2) (c.spelled-name.ensures.count ∙ sym c.requires.2) in
    subst (SpellsKeys c.args.actors.now c.args.actor.now c.args.counter.now c.args.name.now) (sym c.known.ensures)
    (SpellsKeys-readings c.args.actors.now c.args.actor.now c.args.counter.now c.args.name.now c.spelled-places.result c.spelled-counter.result c.spelled-name.result c.spelled-places.ensures.spelled c.spelled-counter.ensures.spelled c.spelled-name.ensures.spelled (c.spelled-counter.ensures.count ∙ sym c.spelled-name.ensures.count) all)

pub returns-clause-count : goal.returns-clause-count
returns-clause-count c =
    let all = keys-if_spelled c.args.actors.now c.args.actor.now c.args.counter.now c.args.name.now c.spelled-places.result c.spelled-counter.result c.spelled-name.result c.spelled-places.ensures.spelled c.spelled-counter.ensures.spelled c.spelled-name.ensures.spelled c.requires.0 c.requires.1 (c.spelled-places.ensures.count ∙ sym c.requires.2) (c.spelled-counter.ensures.count ∙ sym c.requires.2) (c.spelled-name.ensures.count ∙ sym c.requires.2) in
    ap length c.known.ensures ∙ length-readings (key_read c.args.actors.now) c.spelled-places.result (zip c.spelled-counter.result c.spelled-name.result) all ∙ c.spelled-places.ensures.count
