use Rattle.std.proofs.Common.{◌≡◌, length, refl, ap, sym, subst, ◌∙◌}
use Rattle.am_fields.specs.Reading.{readings, AllRead}
use Rattle.am_fields.specs.Spelling.{SpellsPlaced}
use Rattle.am_fields.proofs.Filled.{OnErr-from, OnErr-map, IfOk-both}
use Rattle.am_fields.proofs.Readings.{length-readings}
use Rattle.am_fields.proofs.IdLaws.{read-spelled, read-if_spelled, places_spelled}
use Rattle.am_fields.proofs.placed.PlacedColumns.over.Goals as goal

pub returns-in_err-places-clause-err : goal.returns-in_err-places-clause-err
returns-in_err-places-clause-err g c = OnErr-from c.from_residual.result _ (λ items spelled n.
    let p = places_spelled c.args.actors.now c.args.actor.now g.C.RowCells.rows.actor_of items spelled.actor_column in
    c.in_err-places.ensures.err p.0 p.1 (p.2 ∙ n))

pub returns-in_err-counters-clause-err : goal.returns-in_err-counters-clause-err
returns-in_err-counters-clause-err g c = OnErr-from c.from_residual-in_err-counters.result _ (λ items spelled n.
    c.in_err-counters.ensures.err items spelled.counter_column spelled.within n)

pub judged-requires : goal.judged-requires
judged-requires g c = λ k. ((refl, tt), c.in_ok-places.ensures.count ∙ sym c.in_ok-counters.ensures.count)

pub returns-clause-spelled : goal.returns-clause-spelled
returns-clause-spelled g c =
    let rows = g.C.RowCells.rows in
    let cells = g.C.RowCells.cells c.in_ok-counters.counters in
    IfOk-both c.judged.result (λ _. AllRead (rows.read c.args.actors.now) c.in_ok-places.places cells) (λ v. v ≡ readings (rows.read c.args.actors.now) c.in_ok-places.places cells)
    (SpellsPlaced rows.actor_of rows.cell_of rows.Within g.C.Counters.spells c.args.actors.now c.args.actor.now c.args.counter.now)
    (λ v all e. subst (SpellsPlaced rows.actor_of rows.cell_of rows.Within g.C.Counters.spells c.args.actors.now c.args.actor.now c.args.counter.now) (sym e)
    (read-spelled rows g.C.Counters.spells c.args.actors.now c.args.actor.now c.args.counter.now c.in_ok-places.places cells (g.met.C.RowCells.reads c.args.actors.now) c.in_ok-places.ensures.spelled c.in_ok-counters.ensures.spelled.spelled all))
    c.judged.ensures.read c.judged.ensures.items

pub returns-clause-count : goal.returns-clause-count
returns-clause-count g c =
    let rows = g.C.RowCells.rows in
    let cells = g.C.RowCells.cells c.in_ok-counters.counters in
    IfOk-both c.judged.result (λ _. AllRead (rows.read c.args.actors.now) c.in_ok-places.places cells) (λ v. v ≡ readings (rows.read c.args.actors.now) c.in_ok-places.places cells) (λ v. length v ≡ c.args.count)
    (λ v all e. ap length e ∙ length-readings (rows.read c.args.actors.now) c.in_ok-places.places cells all ∙ c.in_ok-places.ensures.count)
    c.judged.ensures.read c.judged.ensures.items

pub returns-clause-err : goal.returns-clause-err
returns-clause-err g c = OnErr-map c.judged.result _ _ (λ none items spelled n. none
    (read-if_spelled g.C.RowCells.rows g.C.Counters.spells c.args.actors.now c.args.actor.now c.args.counter.now c.in_ok-places.places (g.C.RowCells.cells c.in_ok-counters.counters) (g.met.C.RowCells.reads c.args.actors.now) c.in_ok-places.ensures.spelled c.in_ok-counters.ensures.spelled items spelled (c.in_ok-places.ensures.count ∙ sym n) (c.in_ok-counters.ensures.count ∙ sym n)))
    c.judged.ensures.err
