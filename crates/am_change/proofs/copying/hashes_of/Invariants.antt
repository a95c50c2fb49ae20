use Rattle.std.proofs.Common.{◌≡◌, ◌*◌, ◌++◌, length}
use Rattle.am_change.specs.Building.{hashes_in}
use Rattle.am_change.proofs.copying.hashes_of.Given as goal

abbrev pub invariant-loop-left : goal.invariant-loop-left
invariant-loop-left l = (length l.rest ≡ 32 * l.left) × (l.hashes.items ++ hashes_in l.left l.rest ≡ hashes_in l.fn.count l.bytes)

abbrev pub decreases-loop-left : goal.decreases-loop-left
decreases-loop-left l = l.left
