use Rattle.std.proofs.Common.{◌≡◌, ◌++◌, length}
use Rattle.am_rebuild.proofs.copying.deps_in.Given as goal

abbrev pub invariant-loop-place : goal.invariant-loop-place
invariant-loop-place l = l.copy ++ l.rest ≡ l.fn.deps

abbrev pub decreases-loop-place : goal.decreases-loop-place
decreases-loop-place l = length l.rest
