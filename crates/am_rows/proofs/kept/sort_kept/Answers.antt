use Rattle.std.proofs.Common.{rules, ◌≡◌, ◌∙◌, map, ap, sym}
use Rattle.std.specs.Ordering.{is_lt, on}
use Rattle.std.proofs.lemmas.Cmp.{on_total}
use Rattle.std.proofs.lemmas.List.Sorted.{ranks_by, answers_always}
use Rattle.am_types.specs.Order.{sorted_by}
use Rattle.am_places.specs.declared.Placed.{Placed}
use Rattle.am_places.specs.Placed.{placed_cmp}
use Rattle.am_places.proofs.PlaceOrder.{placed_total}
use Rattle.am_places.proofs.Stable.{stably_sorted, sorted_by-map}
use Rattle.am_rows.specs.declared.kept.Kept.{Kept}
use Rattle.am_rows.proofs.kept.sort_kept.Goals as goal

abbrev place_of : Kept → Placed
place_of k = k.placed

pub returns : goal.returns
returns c =
    let sorted : c.sort_by.new.self.items ≡ sorted_by (on place_of placed_cmp) c.args.kept.now.items = stably_sorted (on_total place_of placed_total) c.args.kept.now.items c.sort_by.new.self.items
    (c.in_ok-sort_by.ensures.sorted (λ x y. is_lt (on place_of placed_cmp x y)) (ranks_by placed_total place_of) (answers_always _ _ _ (λ f a r q k. search rules)))
    (c.in_ok-sort_by.ensures.stable (λ x y. is_lt (on place_of placed_cmp x y)) (ranks_by placed_total place_of) (answers_always _ _ _ (λ f a r q k. search rules))) in
    ap (map place_of) sorted ∙ sym (sorted_by-map placed_cmp place_of c.args.kept.now.items)
