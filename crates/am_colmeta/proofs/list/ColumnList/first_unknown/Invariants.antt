use Rattle.std.proofs.Common.{ℕ, length}
use Rattle.am_colmeta.specs.Judgement.{AreKnown, IsFirstUnknown}
use Rattle.am_colmeta.proofs.list.ColumnList.first_unknown.Given as goal

abbrev pub invariant-loop-specification : goal.invariant-loop-specification
invariant-loop-specification l =
    ((specification : ℕ) → IsFirstUnknown l.known l.rest specification → IsFirstUnknown l.known l.self specification)
    × (AreKnown l.known l.rest → AreKnown l.known l.self)

abbrev pub decreases-loop-specification : goal.decreases-loop-specification
decreases-loop-specification l = length l.rest
