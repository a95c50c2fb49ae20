use Rattle.std.proofs.Common.{length}
use Rattle.am_chain.specs.Sequences.{key_of_node}
use Rattle.am_chain.specs.Passing.{put_passing, put_below}
use Rattle.am_chain.specs.Chains.{IsGap, spelled, node_ids, ids_of}
use Rattle.am_types.specs.Views.{id_of}
use Rattle.am_chain.proofs.node.find_gap.Given as goal

abbrev pub invariant-loop-at : goal.invariant-loop-at
invariant-loop-at l = IsGap l.nodes (spelled l.nodes l.fn.first) l.before l.at (put_below (id_of l.id)) (put_passing (key_of_node (node_ids l.nodes) l.fn.after) (id_of l.id) (ids_of (spelled l.nodes l.fn.first)))

abbrev pub decreases-loop-at : goal.decreases-loop-at
decreases-loop-at l = length (spelled l.nodes l.at)
