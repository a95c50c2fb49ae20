use Rattle.std.proofs.Common.{◌∙◌, ◌∷◌, sym, ap}
use Rattle.am_types.specs.declared.OpId.{OpId}
use Rattle.am_chain.specs.Chains.{spelled, ids_of}
use Rattle.am_chain.proofs.Links.{Leads-within}
use Rattle.am_chain.proofs.Walks.{IsNext, next_id, no_id}
use Rattle.am_chain.proofs.walk.Walk.next.Goals as goal

pub bounds-nodes-node : goal.bounds-nodes-node
bounds-nodes-node c = Leads-within c.self.inside.nodes.now c.self.inside.at c.self.invariant.0 c.self.invariant.1 c.in-Some.node c.in-Some.is

pub invariant_of-self : goal.invariant_of-self
invariant_of-self c =
    let n : IsNext c.self.inside.nodes.now c.self.inside.at c.index-nodes-node.result
    = next_id c.self.inside.nodes.now c.self.inside.at c.self.invariant.0 c.self.invariant.1 c.self.invariant.2 c.in-Some.node c.in-Some.is c.index-nodes-node.result c.index-nodes-node.is in
    (n.rest, n.leads, n.few)

pub returns-in-Some : goal.returns-in-Some
returns-in-Some c =
    let n : IsNext c.self.inside.nodes.now c.self.inside.at c.index-nodes-node.result
    = next_id c.self.inside.nodes.now c.self.inside.at c.self.invariant.0 c.self.invariant.1 c.self.invariant.2 c.in-Some.node c.in-Some.is c.index-nodes-node.result c.index-nodes-node.is in
    record { next = sym c.self.view_is ∙ n.ids ∙ ap (λ (i : OpId). i ∷ ids_of (spelled c.self.inside.nodes.now c.index-nodes-node.result.next)) (sym c.lend.ensures) }

pub returns-in-None : goal.returns-in-None
returns-in-None c =
    let none = no_id c.self.inside.nodes.now c.self.inside.at c.self.invariant.0 c.self.invariant.1 c.self.invariant.2 c.in-None.is in
    record { next = (sym c.self.view_is ∙ none, sym c.self.view_is ∙ none) }
