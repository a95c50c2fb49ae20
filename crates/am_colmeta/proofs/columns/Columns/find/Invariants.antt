use Rattle.std.proofs.Common.{◌≡◌, length}
use Rattle.am_colmeta.specs.Metadata.{total, column_at}
use Rattle.am_colmeta.specs.Reading.{cut}
use Rattle.am_colmeta.proofs.columns.Columns.find.Given as goal

abbrev pub invariant-loop-specification : goal.invariant-loop-specification
invariant-loop-specification l =
    (total l.list ≡ length l.body) × (column_at (cut l.list l.body) l.spec ≡ column_at l.self l.spec)

abbrev pub decreases-loop-specification : goal.decreases-loop-specification
decreases-loop-specification l = length l.list
