use Rattle.std.proofs.Common.{◌∙◌, ◌∷◌, ◌++◌, [], ℕ, List, Option, Some, None, length, sym, ap, subst}
use Rattle.std.proofs.lemmas.List.{length-map}
use Rattle.std.proofs.lemmas.Option.{slice_get_within}
use Rattle.std.proofs.lemmas.Result.{on_ok_weaker}
use Rattle.am_types.specs.declared.OpId.{OpId}
use Rattle.am_chain.specs.declared.node.Node.{Node}
use Rattle.am_chain.specs.Sequences.{Sequence, IsNodeBelow, IsStanding, key_of_node}
use Rattle.am_chain.specs.Passing.{put_passing}
use Rattle.am_chain.specs.Chains.{IsGap, spelled, node_ids, ids_of}
use Rattle.am_chain.proofs.chain.Chain.insert.Goals as goal

standing : (nodes : List Node) (e : OpId) (after : Option ℕ) → IsNodeBelow (node_ids nodes) e after → IsStanding (length nodes) after
standing nodes e None h = tt
standing nodes e (Some n) h = rw (← length-map nodes (λ (r : Node). r.id)) (slice_get_within (node_ids nodes) n h.0 h.1)

pub find_gap-gap-requires-clause-standing : goal.find_gap-gap-requires-clause-standing
find_gap-gap-requires-clause-standing c =
    let below : IsNodeBelow (node_ids c.self.inside.nodes.items) c.args.id c.args.after = subst (λ (s : Sequence). IsNodeBelow s.nodes c.args.id c.args.after) (sym c.self.view_is) c.requires.standing in
    rw c.as_slice.ensures.value (standing c.self.inside.nodes.items c.args.id c.args.after below)

-- the gap for the node
in_gap : (c : goal.After-put_in_gap) → IsGap c.self.inside.nodes.items (spelled c.self.inside.nodes.items c.self.inside.first) c.find_gap-gap.result.before c.find_gap-gap.result.at (λ fs. c.args.id ∷ fs) (put_passing (key_of_node (node_ids c.self.inside.nodes.items) c.args.after) c.args.id (ids_of (spelled c.self.inside.nodes.items c.self.inside.first)))
in_gap c = rw (c.as_slice.ensures.value, c.lend.ensures) at c.find_gap-gap.ensures

pub put_in_gap-requires-clause-gap : goal.put_in_gap-requires-clause-gap
put_in_gap-requires-clause-gap c = (_, rw (c.as_slice.ensures.value, c.lend.ensures) at c.find_gap-gap.ensures)

pub returns-clause-nodes : goal.returns-clause-nodes
returns-clause-nodes c = on_ok_weaker c.put_in_gap.result (λ put. (put _ (in_gap c)).ids ∙ ap (λ (s : Sequence). s.nodes ++ c.args.id ∷ []) c.self.view_is) c.put_in_gap.ensures.put

pub returns-clause-walk : goal.returns-clause-walk
returns-clause-walk c = on_ok_weaker c.put_in_gap.result (λ put. (put _ (in_gap c)).walk ∙ ap (λ (s : Sequence). put_passing (key_of_node s.nodes c.args.after) c.args.id s.walk) c.self.view_is) c.put_in_gap.ensures.put
