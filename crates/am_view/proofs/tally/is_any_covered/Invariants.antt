use Rattle.std.proofs.Common.{◌≡◌, ◌≤◌, length}
use Rattle.std.specs.List.{list_any}
use Rattle.am_view.specs.Seen.{seen_by}
use Rattle.am_view.proofs.tally.is_any_covered.Given as goal

abbrev pub invariant-loop-succ : goal.invariant-loop-succ
invariant-loop-succ l = (l.clock ≡ l.initial.clock) × (list_any (seen_by l.initial.clock) l.succs ≡ list_any (seen_by l.initial.clock) l.initial.succs) × (length l.succs ≤ length l.initial.succs)

abbrev pub decreases-loop-succ : goal.decreases-loop-succ
decreases-loop-succ l = length l.succs
