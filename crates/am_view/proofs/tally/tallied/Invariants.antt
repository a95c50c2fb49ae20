use Rattle.std.proofs.Common.{◌≡◌, ◌+◌, ◌-◌, ◌≤◌, ◌^◌, length}
use Rattle.am_view.specs.Borrowed.{coming}
use Rattle.am_view.specs.Seen.{seen_by}
use Rattle.am_view.specs.Steps.{tally}
use Rattle.am_view.specs.Totals.{IsBounded}
use Rattle.am_view.proofs.tally.tallied.Given as goal

abbrev pub invariant-loop-id : goal.invariant-loop-id
invariant-loop-id l =
    (tally (seen_by l.initial.clock) l.total l.succs (coming l.ahead) ≡ tally (seen_by l.initial.clock) l.fn.first l.fn.succs (coming l.fn.ahead))
    × (length l.succs ≤ 2 ^ 22)
    × IsBounded (2 ^ 22 + 1 - length l.succs) l.total
    × (l.clock ≡ l.initial.clock)

abbrev pub decreases-loop-id : goal.decreases-loop-id
decreases-loop-id l = length l.succs
