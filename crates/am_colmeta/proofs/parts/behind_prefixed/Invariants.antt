use Rattle.std.proofs.Common.{◌≡◌}
use Rattle.am_colmeta.specs.Reading.{behind, first_prefixed}
use Rattle.am_colmeta.proofs.parts.behind_prefixed.Given as goal

abbrev pub invariant-loop-left : goal.invariant-loop-left
invariant-loop-left l = behind first_prefixed l.left l.rest ≡ behind first_prefixed l.initial.left l.initial.rest

abbrev pub decreases-loop-left : goal.decreases-loop-left
decreases-loop-left l = l.left
