use Rattle.std.proofs.Common.{rules}
use Rattle.std.specs.Ordering.{is_lt}
use Rattle.std.proofs.lemmas.List.Sorted.{ranks_by, answers_always}
use Rattle.am_places.proofs.Stable.{stably_sorted}
use Rattle.am_rows.specs.Ranked.{ranked_cmp}
use Rattle.am_rows.proofs.Ranks.{ranked_total}
use Rattle.am_rows.proofs.ranked.sort_ranked.Goals as goal

pub returns : goal.returns
returns c =
    stably_sorted ranked_total c.args.ranked.now.items c.sort_by.new.self.items
    (c.in_ok-sort_by.ensures.sorted (λ p q. is_lt (ranked_cmp p q)) (ranks_by ranked_total (λ p. p)) (answers_always _ _ _ (λ f a r q k. search rules)))
    (c.in_ok-sort_by.ensures.stable (λ p q. is_lt (ranked_cmp p q)) (ranks_by ranked_total (λ p. p)) (answers_always _ _ _ (λ f a r q k. search rules)))
