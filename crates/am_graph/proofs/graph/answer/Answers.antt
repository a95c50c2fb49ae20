use Rattle.std.proofs.Common.{◌∙◌, sym}
use Rattle.am_graph.proofs.SameNodes.{answers_same, answers_clash}
use Rattle.am_graph.proofs.graph.answer.Goals as goal

pub returns-then-is_same : goal.returns-then-is_same
returns-then-is_same c = answers_same c.args.held.now _ (sym c.is_same.ensures ∙ c.if-is_same.true)

pub returns-else-is_same : goal.returns-else-is_same
returns-else-is_same c = answers_clash c.args.held.now _ (sym c.is_same.ensures ∙ c.if-is_same.false)
