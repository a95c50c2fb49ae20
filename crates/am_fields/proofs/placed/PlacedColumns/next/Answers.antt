use Rattle.std.proofs.Common.{ℕ, List, sym, subst}
use Rattle.am_fields.specs.Reading.{AllRead}
use Rattle.am_fields.proofs.Readings.{AllRead-next}
use Rattle.am_fields.proofs.placed.PlacedColumns.next.Goals as goal

pub invariant_of-self : goal.invariant_of-self
invariant_of-self g c =
    let at = c.self.inside in
    let R : List (List ℕ) → Type 0 = λ actors. AllRead (g.B.RowCells.rows.read actors) c.next.new.self (g.B.RowCells.cells c.item.new.self) in
    subst R (sym c.item.ensures.same) (AllRead-next (g.B.RowCells.rows.read at.actors) c.next.result c.item.ensures.item.0 at.actor c.next.new.self (g.B.RowCells.cells at.beside) (g.B.RowCells.cells c.item.new.self) c.next.ensures c.item.ensures.item.1 c.self.invariant).1
