use Rattle.std.proofs.Common.{length}
use Rattle.am_types.specs.Order.{bytes_cmp}
use Rattle.am_opcols.specs.Chains.{Chain, ChainFrom}
use Rattle.am_opcols.proofs.listed.ascend.Given as goal

abbrev pub invariant-loop-actor : goal.invariant-loop-actor
invariant-loop-actor l = (ChainFrom bytes_cmp l.before l.rest → Chain bytes_cmp l.actors) × (Chain bytes_cmp l.actors → ChainFrom bytes_cmp l.before l.rest)

abbrev pub decreases-loop-actor : goal.decreases-loop-actor
decreases-loop-actor l = length l.rest
