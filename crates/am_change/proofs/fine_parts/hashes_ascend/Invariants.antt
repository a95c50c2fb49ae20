use Rattle.std.proofs.Common.{◌≡◌, ◌*◌, length}
use Rattle.am_types.specs.Order.{hash_cmp}
use Rattle.am_opcols.specs.Chains.{Chain, ChainFrom}
use Rattle.am_change.specs.Building.{hash_with, hashes_in}
use Rattle.am_change.proofs.fine_parts.hashes_ascend.Given as goal

abbrev pub invariant-loop-left : goal.invariant-loop-left
invariant-loop-left l =
    (length l.rest ≡ 32 * l.left)
    × (ChainFrom hash_cmp (hash_with l.before) (hashes_in l.left l.rest) → Chain hash_cmp (hashes_in l.fn.count l.bytes))
    × (Chain hash_cmp (hashes_in l.fn.count l.bytes) → ChainFrom hash_cmp (hash_with l.before) (hashes_in l.left l.rest))

abbrev pub decreases-loop-left : goal.decreases-loop-left
decreases-loop-left l = l.left
