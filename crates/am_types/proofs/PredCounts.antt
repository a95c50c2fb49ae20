-- How many predecessors operations have that are read one after another.
--     count_next      those of one more
use Rattle.std.proofs.Common.{◌≡◌, ℕ, ◌+◌, ◌<◌, List, length, map, take, get_or, sym, ap, ◌∙◌, arith}
use Rattle.std.proofs.lemmas.List.{length-map, get_or-map}
use Rattle.std.proofs.lemmas.List.Sums.{sum_by_more}
use Rattle.am_types.specs.Records.{Op}
use Rattle.am_types.specs.Fine.{pred_count}

pub count_next : {X : Type 0} (o : X → Op) (xs : List X) (i : ℕ) (x : X) → i < length xs → x ≡ get_or xs i x
    → pred_count (take (i + 1) (map o xs)) ≡ pred_count (take i (map o xs)) + length (o x).preds
count_next o xs i x n is =
    sum_by_more (λ (p : Op). length p.preds) (map o xs) i (o x) (omega (arith, length-map xs o))
    ∙ ap (λ (p : Op). pred_count (take i (map o xs)) + length p.preds) (get_or-map o xs i x (o x) n ∙ ap o (sym is))
