use Rattle.std.proofs.Common.{◌≡◌, ◌∙◌, All, IfSome, map, ap, subst, vec_items}
use Rattle.std.proofs.lemmas.Result.{IfOk-weaker}
use Rattle.am_places.specs.Numbered.{operation_of}
use Rattle.am_rows.specs.declared.kept.Kept.{Kept}
use Rattle.am_rows.specs.declared.ranked.Ranked.{Ranked}
use Rattle.am_rows.specs.Ranked.{IsRanked}
use Rattle.am_rows.proofs.Ranks.{sorted_places}
use Rattle.am_rows.proofs.ranked.in_order.Goals as goal

pub returns-in-Some : goal.returns-in-Some
returns-in-Some c =
    let A = map operation_of c.args.operations.now in
    let found = subst (λ o. IfSome o (λ ranked. (map (λ (r : Ranked). r.kept) ranked.items ≡ c.as_slice.result.now) × All (IsRanked A) ranked.items)) c.in-Some.is c.in_ok-ranked.ensures in
    IfOk-weaker c.kept_of.result _ _
    (λ kept e. ap (map (λ (k : Kept). k.placed)) (e ∙ ap (map (λ (r : Ranked). r.kept)) (c.as_slice-in-Some.ensures.value ∙ c.in_ok-sort_ranked-in-Some.ensures))
    ∙ sorted_places A c.requires c.in-Some.ranked.items (vec_items c.args.kept) found.1 (found.0 ∙ c.as_slice.ensures.value))
    c.kept_of.ensures
