use Rattle.std.proofs.Common.{sym}
use Rattle.am_fields.proofs.Readings.{length-readings}
use Rattle.am_fields.proofs.placed.PlacedColumns.left.Goals as goal

pub returns : goal.returns
returns g c = rw (c.left.ensures, ← c.self.view_is) (sym (length-readings _ c.self.inside.actor (g.B.RowCells.cells c.self.inside.beside) c.self.invariant))
