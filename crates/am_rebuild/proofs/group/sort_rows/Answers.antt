use Rattle.std.proofs.Common.{rules, map, ap, ◌∙◌}
use Rattle.std.specs.Ordering.{is_lt}
use Rattle.std.specs.Borrow.{Bor}
use Rattle.std.proofs.lemmas.List.Sorted.{ranks_by, answers_always}
use Rattle.std.proofs.lemmas.Fn.{dedup_same}
use Rattle.am_types.specs.declared.Row.{Row}
use Rattle.am_types.specs.Order.{id_cmp}
use Rattle.am_types.specs.Same.{same_id}
use Rattle.am_types.proofs.Orders.{id_total}
use Rattle.am_rebuild.proofs.Deduped.{each_once-deduped}
use Rattle.am_rebuild.proofs.group.sort_rows.Goals as goal

pub returns : goal.returns
returns c =
    let sorted = c.in_ok-sort_by.ensures.sorted (λ x y. is_lt (id_cmp x.now.id y.now.id)) (ranks_by id_total (λ (r : Bor Row). r.now.id)) (answers_always _ _ _ (λ f a r q k. search rules)) in
    let deduped = dedup_same _ (λ (x y : Bor Row). same_id x.now.id y.now.id) _ (λ x y b f' x' y' k. search rules) _ _ c.dedup_by.ensures.filtered in
    ap (map (λ (r : Bor Row). r.now.id)) deduped ∙ each_once-deduped (λ (r : Bor Row). r.now.id) c.args.rows.now.items c.sort_by.new.self.items c.in_ok-sort_by.ensures.permutation sorted
