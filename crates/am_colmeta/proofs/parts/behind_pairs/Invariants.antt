use Rattle.std.proofs.Common.{◌≡◌}
use Rattle.am_colmeta.specs.Reading.{behind, first_pair}
use Rattle.am_colmeta.proofs.parts.behind_pairs.Given as goal

abbrev pub invariant-loop-left : goal.invariant-loop-left
invariant-loop-left l = behind first_pair l.left l.rest ≡ behind first_pair l.initial.left l.initial.rest

abbrev pub decreases-loop-left : goal.decreases-loop-left
decreases-loop-left l = l.left
