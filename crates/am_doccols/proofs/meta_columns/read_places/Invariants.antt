use Rattle.std.proofs.Common.{◌≡◌, ◌++◌, length}
use Rattle.am_doccols.proofs.meta_columns.read_places.Given as goal

abbrev pub invariant-loop-place : goal.invariant-loop-place
invariant-loop-place l = l.places.items ++ l.rest ≡ l.fn.from

abbrev pub decreases-loop-place : goal.decreases-loop-place
decreases-loop-place l = length l.rest
