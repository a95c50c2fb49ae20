use Rattle.std.proofs.Common.{◌∙◌, sym}
use Rattle.am_graph.proofs.SameNodes.{found_none}
use Rattle.am_graph.proofs.graph.Graph.add.Goals as goal

pub returns-clause-added : goal.returns-clause-added
returns-clause-added c = found_none c.args.self.now c.args.hash (sym c.holds.ensures.graph ∙ c.if-holds.false)
