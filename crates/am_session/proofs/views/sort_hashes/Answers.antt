use Rattle.am_types.proofs.Orders.{hash_total, hash_exact}
use Rattle.am_graph.proofs.SortCalls.{sorted_is}
use Rattle.am_session.proofs.views.sort_hashes.Goals as goal

pub returns : goal.returns
returns c = sorted_is hash_total (λ _. Unit {0}) (λ x y _ _ e. hash_exact x y e) c.args.hashes.now.items c.sort_unstable.new.self.items (λ k d l. tt) c.sort_unstable.ensures.permutation c.sort_unstable.ensures.sorted
