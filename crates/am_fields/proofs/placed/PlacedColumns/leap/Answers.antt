use Rattle.std.proofs.Common.{◌≡◌, arith, length, ap, ◌∙◌, sym}
use Rattle.am_fields.proofs.Readings.{length-readings, same_length, readings-drop, AllRead-drop}
use Rattle.am_fields.proofs.placed.PlacedColumns.leap.Goals as goal

pub skip-requires : goal.skip-requires
skip-requires g c =
    let at = c.self.inside in
    let whole : length c.args.self.now ≡ length at.actor = ap length (sym c.self.view_is) ∙ length-readings (g.B.RowCells.rows.read at.actors) at.actor (g.B.RowCells.cells at.beside) c.self.invariant in
    omega (arith, whole, c.requires)

pub skip-requires-2 : goal.skip-requires-2
skip-requires-2 g c =
    let at = c.self.inside in
    let whole : length c.args.self.now ≡ length at.actor = ap length (sym c.self.view_is) ∙ length-readings (g.B.RowCells.rows.read at.actors) at.actor (g.B.RowCells.cells at.beside) c.self.invariant in
    let both : length at.actor ≡ length (g.B.RowCells.cells at.beside) = same_length (g.B.RowCells.rows.read at.actors) at.actor (g.B.RowCells.cells at.beside) c.self.invariant in
    omega (arith, whole, both, c.requires)

pub invariant_of-self : goal.invariant_of-self
invariant_of-self g c =
    let at = c.self.inside in
    rw (c.skip.ensures, c.skip-2.ensures) (AllRead-drop (g.B.RowCells.rows.read at.actors) c.args.n at.actor (g.B.RowCells.cells at.beside) c.self.invariant)

pub returns : goal.returns
returns g c =
    let at = c.self.inside in
    rw (c.skip.ensures, c.skip-2.ensures, ← c.self.view_is) (readings-drop (g.B.RowCells.rows.read at.actors) c.args.n at.actor (g.B.RowCells.cells at.beside) c.self.invariant)
