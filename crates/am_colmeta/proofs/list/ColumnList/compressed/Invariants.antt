use Rattle.std.proofs.Common.{length}
use Rattle.am_colmeta.specs.Judgement.{AreCompressed}
use Rattle.am_colmeta.proofs.list.ColumnList.compressed.Given as goal

abbrev pub invariant-loop-specification : goal.invariant-loop-specification
invariant-loop-specification l = (AreCompressed l.rest → AreCompressed l.self) × (AreCompressed l.self → AreCompressed l.rest)

abbrev pub decreases-loop-specification : goal.decreases-loop-specification
decreases-loop-specification l = length l.rest
