use Rattle.std.proofs.Common.{ℕ, ◌≡◌, ◌≤◌, length}
use Rattle.am_colmeta.specs.Metadata.{column_at}
use Rattle.am_opcols.proofs.found.take.Given as goal

abbrev pub invariant-loop-at : goal.invariant-loop-at
invariant-loop-at l = (l.ahead ≡ l.rest) × ((s : ℕ) → l.specification ≤ s → column_at l.rest s ≡ column_at l.columns s)

abbrev pub decreases-loop-at : goal.decreases-loop-at
decreases-loop-at l = length l.ahead
