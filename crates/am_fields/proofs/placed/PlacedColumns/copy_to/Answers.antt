use Rattle.std.proofs.Common.{◌≤◌, ◌∙◌, refl, length, take, drop, map, ap, arith}
use Rattle.am_fields.specs.Moving.{moved}
use Rattle.am_fields.specs.Reading.{readings}
use Rattle.am_fields.proofs.Readings.{reads_from, length-readings, same_length}
use Rattle.am_fields.proofs.Moves.{are_moved, written_as}
use Rattle.am_fields.proofs.placed.PlacedColumns.copy_to.Goals as goal

pub move_places-requires-clause-enough : goal.move_places-requires-clause-enough
move_places-requires-clause-enough g c =
    let at = c.self.inside in
    omega (arith, c.requires.enough, ap length c.self.view_is, length-readings (g.C.RowCells.rows.read at.actors) at.actor (g.C.RowCells.cells at.beside) c.self.invariant, ap length c.again-actor.ensures)

pub copy_to-requires : goal.copy_to-requires
copy_to-requires g c = λ k.
    let at = c.self.inside in
    let rows = g.C.RowCells.rows in
    let cells = g.C.RowCells.cells at.beside in
    let from = reads_from at.actors (rows.read at.actors) rows.actor_of rows.cell_of rows.Within (g.met.C.RowCells.reads at.actors) at.actor cells c.self.invariant in
    let enough : c.args.n ≤ length (g.C.RowCells.cells c.again-beside.result) = omega (arith, c.requires.enough, ap length c.self.view_is, length-readings (rows.read at.actors) at.actor cells c.self.invariant, same_length (rows.read at.actors) at.actor cells c.self.invariant, ap length c.again-beside.ensures) in
    ((refl, tt), (c.requires.counters, (enough, (readings (rows.read at.actors) at.actor cells, c.again-beside.ensures ∙ from.numbers, from.within))))

pub invariant_of-self : goal.invariant_of-self
invariant_of-self g c = rw c.move_places.ensures.same c.self.invariant

pub invariant_of-self-in_err-copy_to : goal.invariant_of-self-in_err-copy_to
invariant_of-self-in_err-copy_to g c = rw c.move_places.ensures.same c.self.invariant

pub invariant_of-self-2 : goal.invariant_of-self-2
invariant_of-self-2 g c =
    let at = c.self.inside in
    let rows = g.C.RowCells.rows in
    let w = are_moved at.actors c.args.actors.now (rows.read at.actors) rows.actor_of rows.cell_of rows.Within (g.met.C.RowCells.reads at.actors) c.args.n at.actor _ (g.C.RowCells.cells at.beside) _ _ c.self.invariant c.self.view_is (c.in_ok-move_places.ensures.behind ∙ ap (drop c.args.n) c.again-actor.ensures) (c.in_ok-copy_to.ensures.behind ∙ ap (drop c.args.n) c.again-beside.ensures) in
    rw c.move_places.ensures.same w.all

pub returns-clause-places : goal.returns-clause-places
returns-clause-places g c =
    let at = c.self.inside in
    let rows = g.C.RowCells.rows in
    let w = are_moved at.actors c.args.actors.now (rows.read at.actors) rows.actor_of rows.cell_of rows.Within (g.met.C.RowCells.reads at.actors) c.args.n at.actor _ (g.C.RowCells.cells at.beside) _ _ c.self.invariant c.self.view_is (c.in_ok-move_places.ensures.behind ∙ ap (drop c.args.n) c.again-actor.ensures) (c.in_ok-copy_to.ensures.behind ∙ ap (drop c.args.n) c.again-beside.ensures) in
    written_as c.args.places.now c.move_places.new.places _ _ (ap (λ l. take c.args.n (map (moved at.actors c.args.actors.now) l)) c.again-actor.ensures ∙ w.places) c.in_ok-move_places.ensures.ok

pub returns-clause-counters : goal.returns-clause-counters
returns-clause-counters g c =
    let at = c.self.inside in
    let rows = g.C.RowCells.rows in
    let w = are_moved at.actors c.args.actors.now (rows.read at.actors) rows.actor_of rows.cell_of rows.Within (g.met.C.RowCells.reads at.actors) c.args.n at.actor _ (g.C.RowCells.cells at.beside) _ _ c.self.invariant c.self.view_is (c.in_ok-move_places.ensures.behind ∙ ap (drop c.args.n) c.again-actor.ensures) (c.in_ok-copy_to.ensures.behind ∙ ap (drop c.args.n) c.again-beside.ensures) in
    written_as (g.C.Counters.written c.args.counters.now) _ _ _ (ap (take c.args.n) c.again-beside.ensures ∙ w.numbers) c.in_ok-copy_to.ensures.ok

pub returns-clause-behind : goal.returns-clause-behind
returns-clause-behind g c =
    let at = c.self.inside in
    let rows = g.C.RowCells.rows in
    let w = are_moved at.actors c.args.actors.now (rows.read at.actors) rows.actor_of rows.cell_of rows.Within (g.met.C.RowCells.reads at.actors) c.args.n at.actor _ (g.C.RowCells.cells at.beside) _ _ c.self.invariant c.self.view_is (c.in_ok-move_places.ensures.behind ∙ ap (drop c.args.n) c.again-actor.ensures) (c.in_ok-copy_to.ensures.behind ∙ ap (drop c.args.n) c.again-beside.ensures) in
    rw c.move_places.ensures.same w.behind
