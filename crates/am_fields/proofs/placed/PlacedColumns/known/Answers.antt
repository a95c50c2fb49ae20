use Rattle.std.proofs.Common.{refl}
use Rattle.am_fields.proofs.placed.PlacedColumns.known.Goals as goal

pub invariant_of-result : goal.invariant_of-result
invariant_of-result g c = rw c.again.ensures c.requires

pub returns : goal.returns
returns g c = rw c.again.ensures refl
