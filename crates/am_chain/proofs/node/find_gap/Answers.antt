use Rattle.std.proofs.Common.{◌≡◌, ◌<◌, ◌∙◌, length, sym, ap, subst, get_or, true, false}
use Rattle.std.specs.Ordering.{is_gt}
use Rattle.am_types.specs.declared.OpId.{OpId}
use Rattle.am_types.specs.Views.{id_of}
use Rattle.am_types.specs.Order.{id_cmp}
use Rattle.am_chain.specs.declared.node.Node.{Node}
use Rattle.am_chain.specs.Chains.{spelled}
use Rattle.am_chain.proofs.Links.{gap_within, gap_smaller, gap_passed, gap_stops, gap_ends}
use Rattle.am_chain.proofs.node.find_gap.Goals as goal

pub returns-in_default : goal.returns-in_default
returns-in_default c = gap_ends c.args.nodes.now _ c.loop-at.before c.loop-at.at (id_of c.args.id) _ c.loop-at.invariant c.in_default.is

pub bounds-nodes-node : goal.bounds-nodes-node
bounds-nodes-node c = gap_within c.args.nodes.now _ c.loop-at.before c.loop-at.at _ _ c.loop-at.invariant c.in-Some.node c.in-Some.is

pub loop-at-smaller : goal.loop-at-smaller
loop-at-smaller c =
    subst (λ (r : Node). length (spelled c.args.nodes.now r.next) < length (spelled c.args.nodes.now c.loop-at.at)) (sym c.index-nodes-node.is)
    (gap_smaller c.args.nodes.now c.args.first c.loop-at.before c.loop-at.at _ _ c.requires.linked c.loop-at.invariant c.in-Some.node c.index-nodes-node.result c.in-Some.is)

pub loop-at-preserved : goal.loop-at-preserved
loop-at-preserved c =
    let named : id_of c.lend.result ≡ (get_or c.args.nodes.now c.in-Some.node c.index-nodes-node.result).id = c.lend.ensures ∙ ap (λ (r : Node). r.id) c.index-nodes-node.is in
    let test : is_gt (id_cmp (get_or c.args.nodes.now c.in-Some.node c.index-nodes-node.result).id (id_of c.args.id)) ≡ true
    = sym (ap (λ (i : OpId). is_gt (id_cmp i (id_of c.args.id))) named) ∙ sym (ap is_gt c.compare_ids.ensures) ∙ sym c.is_gt.ensures ∙ c.if-not-is_gt.false in
    rw (c.index-nodes-node.is) (gap_passed c.args.nodes.now _ c.loop-at.before c.loop-at.at (id_of c.args.id) _ c.loop-at.invariant c.in-Some.node c.index-nodes-node.result c.in-Some.is test)

pub returns-then-not-is_gt : goal.returns-then-not-is_gt
returns-then-not-is_gt c =
    let named : id_of c.lend.result ≡ (get_or c.args.nodes.now c.in-Some.node c.index-nodes-node.result).id = c.lend.ensures ∙ ap (λ (r : Node). r.id) c.index-nodes-node.is in
    let test : is_gt (id_cmp (get_or c.args.nodes.now c.in-Some.node c.index-nodes-node.result).id (id_of c.args.id)) ≡ false
    = sym (ap (λ (i : OpId). is_gt (id_cmp i (id_of c.args.id))) named) ∙ sym (ap is_gt c.compare_ids.ensures) ∙ sym c.is_gt.ensures ∙ c.if-not-is_gt.true in
    rw (← c.in-Some.is) (gap_stops c.args.nodes.now _ c.loop-at.before c.loop-at.at (id_of c.args.id) _ c.loop-at.invariant c.in-Some.node c.index-nodes-node.result c.in-Some.is test)
