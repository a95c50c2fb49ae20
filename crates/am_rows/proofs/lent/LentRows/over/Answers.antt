use Rattle.std.proofs.Common.{◌∙◌, All, filter, map, ap, subst, vec_items}
use Rattle.am_places.specs.Numbered.{operation_of}
use Rattle.am_places.specs.Placed.{IsPlaced}
use Rattle.am_rows.specs.declared.kept.Kept.{Kept}
use Rattle.am_rows.specs.Making.{stays}
use Rattle.am_rows.specs.Naming.{named_all}
use Rattle.am_rows.proofs.Made.{AreSorted, still_placed, rows_sorted}
use Rattle.am_rows.proofs.lent.LentRows.over.Goals as goal

pub invariant_of-result : goal.invariant_of-result
invariant_of-result c =
    let A = map operation_of (vec_items c.args.operations) in
    let before = c.in_ok-kept.kept.items in
    let sorted : AreSorted A before c.in_ok-kept-2.kept.items = record {
      kept = c.in_ok-kept.ensures.kept ∙ ap (λ ns. filter stays (map operation_of ns)) c.as_slice-3.ensures.value;
      placed = subst (λ ns. All (λ (k : Kept). IsPlaced (map operation_of ns) k.placed) before) c.as_slice-3.ensures.value c.in_ok-kept.ensures.placed;
      sorted = c.in_ok-kept-2.ensures;
    } in
    record {
      sound = c.requires.sound;
      named = c.in_ok-succs.ensures ∙ ap (λ ns. named_all (map operation_of ns)) c.as_slice.ensures.value;
      placed = still_placed A before c.in_ok-kept-2.kept.items sorted;
    }

pub returns : goal.returns
returns c =
    let A = map operation_of (vec_items c.args.operations) in
    let before = c.in_ok-kept.kept.items in
    let sorted : AreSorted A before c.in_ok-kept-2.kept.items = record {
      kept = c.in_ok-kept.ensures.kept ∙ ap (λ ns. filter stays (map operation_of ns)) c.as_slice-3.ensures.value;
      placed = subst (λ ns. All (λ (k : Kept). IsPlaced (map operation_of ns) k.placed) before) c.as_slice-3.ensures.value c.in_ok-kept.ensures.placed;
      sorted = c.in_ok-kept-2.ensures;
    } in
    rows_sorted A c.requires.sound before c.in_ok-kept-2.kept.items sorted
