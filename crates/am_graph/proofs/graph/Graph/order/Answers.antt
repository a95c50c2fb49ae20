use Rattle.std.proofs.Common.{◌∙◌, ap, map}
use Rattle.am_graph.proofs.Ranking.{ranked_order}
use Rattle.am_graph.proofs.graph.Graph.order.Goals as goal

pub returns : goal.returns
returns c = record {
  set = λ C e. (c.from.ensures ∙ c.in_ok-hashes.ensures ∙ ap (map (λ r. r.hash)) c.as_slice.ensures.value
      ∙ ranked_order c.args.self.now c.in_ok-ranks.ranks.items c.sort_unstable.new.self.items c.in_ok-ranks.ensures c.sort_unstable.ensures.permutation c.sort_unstable.ensures.sorted C e);
}
