use Rattle.std.proofs.Common.{rules}
use Rattle.std.specs.Ordering.{is_lt}
use Rattle.std.proofs.lemmas.List.Sorted.{ranks_by, answers_always}
use Rattle.am_places.proofs.Stable.{stably_sorted}
use Rattle.am_merge.specs.Starts.{Placed, by_placed}
use Rattle.am_merge.proofs.Starting.{by_placed_total}
use Rattle.am_merge.proofs.starts.sort_starts.Goals as goal

pub returns : goal.returns
returns c =
    stably_sorted by_placed_total c.args.all.now.items c.sort_by.new.self.items
    (c.in_ok-sort_by.ensures.sorted (λ x y. is_lt (by_placed x y)) (ranks_by by_placed_total (λ (p : Placed). p)) (answers_always _ _ _ (λ f a r q k. search rules)))
    (c.in_ok-sort_by.ensures.stable (λ x y. is_lt (by_placed x y)) (ranks_by by_placed_total (λ (p : Placed). p)) (answers_always _ _ _ (λ f a r q k. search rules)))
