use Rattle.std.proofs.Common.{refl}
use Rattle.am_fields.proofs.placed.PlacedColumns.judged.Goals as goal

pub returns-then-not-are_read-clause-err : goal.returns-then-not-are_read-clause-err
returns-then-not-are_read-clause-err g c = λ all. absurd (cc (c.if-not-are_read.ensures.1 all))

pub invariant_of-result : goal.invariant_of-result
invariant_of-result g c = rw c.again.ensures (c.if-not-are_read.ensures.0 refl)

pub returns-clause-read : goal.returns-clause-read
returns-clause-read g c = c.if-not-are_read.ensures.0 refl

pub returns-clause-items : goal.returns-clause-items
returns-clause-items g c = rw c.again.ensures refl
