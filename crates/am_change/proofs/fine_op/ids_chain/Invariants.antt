use Rattle.std.proofs.Common.{length}
use Rattle.am_types.specs.Order.{id_cmp}
use Rattle.am_types.specs.Views.{id_of}
use Rattle.am_opcols.specs.Chains.{Chain, ChainFrom}
use Rattle.am_change.proofs.fine_op.ids_chain.Given as goal

abbrev pub invariant-loop-id : goal.invariant-loop-id
invariant-loop-id l = (ChainFrom id_cmp (id_of l.before) l.rest → Chain id_cmp l.fn.ids) × (Chain id_cmp l.fn.ids → ChainFrom id_cmp (id_of l.before) l.rest)

abbrev pub decreases-loop-id : goal.decreases-loop-id
decreases-loop-id l = length l.rest
