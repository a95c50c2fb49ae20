use Rattle.std.proofs.Common.{◌≡◌, ◌≤◌, ◌+◌, ◌-◌, ◌*◌, ◌^◌, length}
use Rattle.am_colmeta.specs.Metadata.{total, Ascend, AscendFrom}
use Rattle.am_colmeta.specs.Judgement.{AreCompressed, AreKnown}
use Rattle.am_colmeta.proofs.list.ColumnList.good_total.Given as goal

abbrev pub invariant-loop-specification : goal.invariant-loop-specification
invariant-loop-specification l =
    ((AreCompressed l.rest → AreCompressed l.self) × (AreCompressed l.self → AreCompressed l.rest))
    × ((AscendFrom l.before l.rest → Ascend l.self) × (Ascend l.self → AscendFrom l.before l.rest))
    × ((AreKnown l.known l.rest → AreKnown l.known l.self) × (AreKnown l.known l.self → AreKnown l.known l.rest))
    × (l.sum + total l.rest ≡ total l.self) × (l.sum + 2 ^ 64 * length l.rest ≤ 2 ^ 64 * (2 ^ 64 - 1))

abbrev pub decreases-loop-specification : goal.decreases-loop-specification
decreases-loop-specification l = length l.rest
