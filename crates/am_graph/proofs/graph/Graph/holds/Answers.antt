use Rattle.std.proofs.Common.{◌∙◌, ap}
use Rattle.am_graph.proofs.Held.{is_some-held, held_of_set}
use Rattle.am_graph.specs.Graphs.{is_held}
use Rattle.am_graph.proofs.graph.Graph.holds.Goals as goal

pub returns-clause-graph : goal.returns-clause-graph
returns-clause-graph c = c.contains_key.ensures ∙ is_some-held c.args.hash.now c.self.inside.parts.held.entries ∙ ap (λ g. is_held g c.args.hash.now) c.self.view_is

pub returns-clause-set : goal.returns-clause-set
returns-clause-set c C e = returns-clause-graph c ∙ held_of_set c.args.self.now C c.args.hash.now e
