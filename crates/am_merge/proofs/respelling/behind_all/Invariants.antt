use Rattle.std.proofs.Common.{length}
use Rattle.std.specs.Prelude.{⊤}
use Rattle.am_merge.proofs.respelling.behind_all.Given as goal

abbrev pub invariant-rows : goal.invariant-rows
invariant-rows l = ⊤

abbrev pub decreases-rows : goal.decreases-rows
decreases-rows l = length l.rest
