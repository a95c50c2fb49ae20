use Rattle.std.proofs.Common.{◌≡◌, ◌∙◌, ◌++◌, ◌∷◌, [], true, false, All, map, ap, sym, subst}
use Rattle.std.proofs.lemmas.List.{map-append}
use Rattle.std.proofs.lemmas.List.Elements.{All-push}
use Rattle.am_places.specs.Numbered.{operation_of}
use Rattle.am_places.specs.Placed.{IsPlaced}
use Rattle.am_rows.specs.declared.kept.Kept.{Kept}
use Rattle.am_rows.specs.Lent.{kept_operation}
use Rattle.am_rows.specs.Making.{stays}
use Rattle.am_rows.proofs.Made.{kept_next, kept_skip}
use Rattle.am_rows.proofs.kept.place_kept.Goals as goal
use Rattle.am_rows.proofs.kept.place_kept.Goals.{then-has_row+in_ok-push, else-has_row}

pub loop-i-preserved : goal.loop-i-preserved
loop-i-preserved c = elim c.if-has_row.branch [
  | then-has_row+in_ok-push w ↦
      let ns = c.args.operations.now in
      let n = c.index-operations-i.result in
      let p = w.placed_near-placed.result in
      let k : Kept = record { placed = p; at = c.loop-i.i } in
      let found = c.loop-i.found.items in
      let yes : stays (operation_of n) ≡ true = sym c.has_row.ensures ∙ w.if-has_row.true in
      let items : c.if-has_row.found.items ≡ found ++ k ∷ [] = ap (λ v. v.items) w.found-is ∙ w.in_ok-push.ensures.items in
      record {
        kept =
            ap (map kept_operation) items ∙ map-append kept_operation found (k ∷ []) ∙ ap (λ x. map kept_operation found ++ x ∷ []) w.placed_near-placed.ensures.same
            ∙ ap (λ l. l ++ operation_of n ∷ []) c.loop-i.invariant.kept
            ∙ sym (kept_next ns c.loop-i.i n c.loop-i-test.true c.index-operations-i.is yes);
        placed = subst (All (λ (k : Kept). IsPlaced (map operation_of ns) k.placed)) (sym items) (All-push (λ (k : Kept). IsPlaced (map operation_of ns) k.placed) found k c.loop-i.invariant.placed w.placed_near-placed.ensures.placed);
      }
  | else-has_row w ↦
      let ns = c.args.operations.now in
      let n = c.index-operations-i.result in
      let none : stays (operation_of n) ≡ false = sym c.has_row.ensures ∙ w.if-has_row.false in
      record {
        kept = ap (λ v. map kept_operation v.items) w.found-is ∙ c.loop-i.invariant.kept ∙ sym (kept_skip ns c.loop-i.i n c.loop-i-test.true c.index-operations-i.is none);
        placed = subst (λ v. All (λ (k : Kept). IsPlaced (map operation_of ns) k.placed) v.items) (sym w.found-is) c.loop-i.invariant.placed;
      }
]
