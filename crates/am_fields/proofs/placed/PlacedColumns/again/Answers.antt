use Rattle.am_fields.proofs.placed.PlacedColumns.again.Goals as goal

pub invariant_of-result : goal.invariant_of-result
invariant_of-result g c = rw (c.again.ensures, c.again-2.ensures, c.again-3.ensures) c.self.invariant
