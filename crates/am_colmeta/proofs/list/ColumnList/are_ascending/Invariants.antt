use Rattle.std.proofs.Common.{length}
use Rattle.am_colmeta.specs.Metadata.{Ascend, AscendFrom}
use Rattle.am_colmeta.proofs.list.ColumnList.are_ascending.Given as goal

abbrev pub invariant-loop-specification : goal.invariant-loop-specification
invariant-loop-specification l = (AscendFrom l.before l.rest → Ascend l.self) × (Ascend l.self → AscendFrom l.before l.rest)

abbrev pub decreases-loop-specification : goal.decreases-loop-specification
decreases-loop-specification l = length l.rest
