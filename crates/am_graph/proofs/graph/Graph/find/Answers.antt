use Rattle.std.proofs.Common.{◌≡◌, ◌∙◌, [], None, sym, subst}
use Rattle.am_graph.specs.Graphs.{IsLeast, having}
use Rattle.am_graph.specs.Whole.{authors_of, first_in}
use Rattle.am_graph.proofs.Growing.{known_at}
use Rattle.am_graph.proofs.Finding.{least_of_set}
use Rattle.am_graph.proofs.Naming.{having_none}
use Rattle.am_graph.proofs.graph.Graph.find.Goals as goal

pub returns-in_default-clause-graph : goal.returns-in_default-clause-graph
returns-in_default-clause-graph c =
    let s = c.self.inside.parts in
    subst (λ g. having g c.args.actor.now c.args.seq ≡ []) c.self.view_is
    (having_none (authors_of s) [] s.held.entries (known_at s.held.entries s.marks.items (authors_of s) (first_in s.firsts) c.self.invariant []) c.args.actor.now c.args.seq
    (sym c.in_default.ensures))

pub returns-in_default-clause-set : goal.returns-in_default-clause-set
returns-in_default-clause-set c = least_of_set c.args.self.now None c.args.actor.now c.args.seq (returns-in_default-clause-graph c)

pub returns-clause-graph : goal.returns-clause-graph
returns-clause-graph c =
    let s = c.self.inside.parts in
    subst (λ g. IsLeast c.copied.result (having g c.args.actor.now c.args.seq)) c.self.view_is
    (subst (λ o. IsLeast o (having s.held.entries c.args.actor.now c.args.seq)) (sym (c.copied.ensures ∙ c.get.ensures.value))
    (c.self.invariant.firsts c.args.actor.now c.in-Some.author c.args.seq (sym c.in-Some.ensures)))

pub returns-clause-set : goal.returns-clause-set
returns-clause-set c = least_of_set c.args.self.now c.copied.result c.args.actor.now c.args.seq (returns-clause-graph c)
