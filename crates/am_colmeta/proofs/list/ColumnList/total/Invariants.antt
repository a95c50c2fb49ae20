use Rattle.std.proofs.Common.{◌≡◌, ◌≤◌, ◌+◌, ◌-◌, ◌*◌, ◌^◌, length}
use Rattle.am_colmeta.specs.Metadata.{total}
use Rattle.am_colmeta.proofs.list.ColumnList.total.Given as goal

abbrev pub invariant-loop-width : goal.invariant-loop-width
invariant-loop-width l = (l.sum + total l.rest ≡ total l.self) × (l.sum + 2 ^ 64 * length l.rest ≤ 2 ^ 64 * (2 ^ 64 - 1))

abbrev pub decreases-loop-width : goal.decreases-loop-width
decreases-loop-width l = length l.rest
