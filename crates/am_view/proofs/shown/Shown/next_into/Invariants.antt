use Rattle.std.proofs.Common.{◌≡◌, length}
use Rattle.am_view.specs.Seen.{seen_by}
use Rattle.am_view.specs.Steps.{walk}
use Rattle.am_view.proofs.shown.Shown.next_into.Given as goal

abbrev pub invariant-loop-self : goal.invariant-loop-self
invariant-loop-self l = walk (seen_by l.self-inside.clock) l.self-inside.rows ≡ walk (seen_by l.initial.self-inside.clock) l.initial.self-inside.rows

abbrev pub decreases-loop-self : goal.decreases-loop-self
decreases-loop-self l = length l.self-inside.rows
