use Rattle.std.proofs.Common.{◌≡◌, length}
use Rattle.am_fields.specs.Reading.{AllRead}
use Rattle.am_fields.proofs.placed.are_read.Given as goal

abbrev pub invariant-loop-known : goal.invariant-loop-known
invariant-loop-known g l =
    (l.known ≡ l.actors)
    × (length l.places ≡ length (g.B.RowCells.cells l.rest))
    × (AllRead (g.B.RowCells.rows.read l.actors) l.places (g.B.RowCells.cells l.rest) → AllRead (g.B.RowCells.rows.read l.actors) l.actor (g.B.RowCells.cells l.beside))
    × (AllRead (g.B.RowCells.rows.read l.actors) l.actor (g.B.RowCells.cells l.beside) → AllRead (g.B.RowCells.rows.read l.actors) l.places (g.B.RowCells.cells l.rest))

abbrev pub decreases-loop-known : goal.decreases-loop-known
decreases-loop-known g l = length l.places
