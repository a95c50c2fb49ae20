use Rattle.std.proofs.Common.{length, refl, ap, sym, subst, ◌∙◌}
use Rattle.am_fields.specs.Spelling.{SpellsPlaced}
use Rattle.am_fields.proofs.Readings.{length-readings}
use Rattle.am_fields.proofs.IdLaws.{read-spelled, read-if_spelled, places_spelled}
use Rattle.am_fields.proofs.placed.PlacedColumns.spelled.Goals as goal

pub spelled-places-requires : goal.spelled-places-requires
spelled-places-requires g c =
    let known = c.requires.1 in
    let places = places_spelled c.args.actors.now c.args.actor.now g.C.RowCells.rows.actor_of c.requires.0 known.actor_column in
    (places.0, places.1, places.2 ∙ c.requires.2)

pub spelled-counters-requires : goal.spelled-counters-requires
spelled-counters-requires g c = λ k.
    let known = c.requires.1 in
    ((refl, tt), (c.requires.0, known.counter_column, known.within, c.requires.2))

pub known-requires : goal.known-requires
known-requires g c = read-if_spelled g.C.RowCells.rows g.C.Counters.spells c.args.actors.now c.args.actor.now c.args.counter.now c.spelled-places.result (g.C.RowCells.cells c.spelled-counters.result) (g.met.C.RowCells.reads c.args.actors.now) c.spelled-places.ensures.spelled c.spelled-counters.ensures.spelled c.requires.0 c.requires.1 (c.spelled-places.ensures.count ∙ sym c.requires.2) (c.spelled-counters.ensures.count ∙ sym c.requires.2)

pub returns-clause-spelled : goal.returns-clause-spelled
returns-clause-spelled g c =
    let rows = g.C.RowCells.rows in
    let all = read-if_spelled rows g.C.Counters.spells c.args.actors.now c.args.actor.now c.args.counter.now c.spelled-places.result (g.C.RowCells.cells c.spelled-counters.result) (g.met.C.RowCells.reads c.args.actors.now) c.spelled-places.ensures.spelled c.spelled-counters.ensures.spelled c.requires.0 c.requires.1 (c.spelled-places.ensures.count ∙ sym c.requires.2) (c.spelled-counters.ensures.count ∙ sym c.requires.2) in
    subst (SpellsPlaced rows.actor_of rows.cell_of rows.Within g.C.Counters.spells c.args.actors.now c.args.actor.now c.args.counter.now) (sym c.known.ensures)
    (read-spelled rows g.C.Counters.spells c.args.actors.now c.args.actor.now c.args.counter.now c.spelled-places.result (g.C.RowCells.cells c.spelled-counters.result) (g.met.C.RowCells.reads c.args.actors.now) c.spelled-places.ensures.spelled c.spelled-counters.ensures.spelled.spelled all)

pub returns-clause-count : goal.returns-clause-count
returns-clause-count g c =
    let rows = g.C.RowCells.rows in
    let all = read-if_spelled rows g.C.Counters.spells c.args.actors.now c.args.actor.now c.args.counter.now c.spelled-places.result (g.C.RowCells.cells c.spelled-counters.result) (g.met.C.RowCells.reads c.args.actors.now) c.spelled-places.ensures.spelled c.spelled-counters.ensures.spelled c.requires.0 c.requires.1 (c.spelled-places.ensures.count ∙ sym c.requires.2) (c.spelled-counters.ensures.count ∙ sym c.requires.2) in
    ap length c.known.ensures ∙ length-readings (rows.read c.args.actors.now) c.spelled-places.result (g.C.RowCells.cells c.spelled-counters.result) all ∙ c.spelled-places.ensures.count
