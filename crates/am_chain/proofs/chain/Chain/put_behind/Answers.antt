use Rattle.std.proofs.Common.{◌≡◌, ◌∙◌, ◌∷◌, ◌++◌, [], length, sym, ap}
use Rattle.std.proofs.lemmas.List.{length-map}
use Rattle.std.proofs.lemmas.Result.{on_ok_weaker}
use Rattle.am_chain.specs.declared.node.Node.{Node}
use Rattle.am_chain.specs.Sequences.{Sequence, key_of_node}
use Rattle.am_types.specs.Elements.{put_at}
use Rattle.am_chain.specs.Chains.{IsGap, spelled, node_ids, ids_of}
use Rattle.am_chain.proofs.chain.Chain.put_behind.Goals as goal

pub link_behind-at-requires-clause-standing : goal.link_behind-at-requires-clause-standing
link_behind-at-requires-clause-standing c =
    let sized : length c.args.self.now.nodes ≡ length c.self.inside.nodes.items = ap (λ (s : Sequence). length s.nodes) (sym c.self.view_is) ∙ length-map c.self.inside.nodes.items (λ (r : Node). r.id) in
    rw (c.as_slice.ensures.value, ← sized) c.requires.standing

-- the gap for the node
in_gap : (c : goal.After-put_in_gap) → IsGap c.self.inside.nodes.items (spelled c.self.inside.nodes.items c.self.inside.first) c.args.before c.link_behind-at.result (λ fs. c.args.id ∷ fs) (put_at (key_of_node (node_ids c.self.inside.nodes.items) c.args.before) c.args.id (ids_of (spelled c.self.inside.nodes.items c.self.inside.first)))
in_gap c = rw c.as_slice.ensures.value at (c.link_behind-at.ensures.directly c.args.id)

pub put_in_gap-requires-clause-gap : goal.put_in_gap-requires-clause-gap
put_in_gap-requires-clause-gap c = (_, rw c.as_slice.ensures.value at (c.link_behind-at.ensures.directly c.args.id))

pub returns-clause-nodes : goal.returns-clause-nodes
returns-clause-nodes c = on_ok_weaker c.put_in_gap.result (λ put. (put _ (in_gap c)).ids ∙ ap (λ (s : Sequence). s.nodes ++ c.args.id ∷ []) c.self.view_is) c.put_in_gap.ensures.put

pub returns-clause-walk : goal.returns-clause-walk
returns-clause-walk c = on_ok_weaker c.put_in_gap.result (λ put. (put _ (in_gap c)).walk ∙ ap (λ (s : Sequence). put_at (key_of_node s.nodes c.args.before) c.args.id s.walk) c.self.view_is) c.put_in_gap.ensures.put
