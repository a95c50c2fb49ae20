use Rattle.am_graph.specs.Whole.{first_in}
use Rattle.am_graph.proofs.Noting.{forgotten}
use Rattle.am_graph.proofs.cutting.forget.Goals as goal

pub returns : goal.returns
returns c = forgotten (first_in c.args.firsts.now) (first_in c.remove.new.self) c.args.author c.args.seq (λ b r. c.remove.ensures.updates.0 (b, r))
