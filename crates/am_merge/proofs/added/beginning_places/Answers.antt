use Rattle.std.proofs.Common.{◌∙◌, ◌<◌, All, ap, map, subst, sym}
use Rattle.std.proofs.lemmas.Result.{IfOk-weaker}
use Rattle.std.proofs.lemmas.List.{length-map}
use Rattle.am_places.specs.Numbered.{operation_of}
use Rattle.am_merge.specs.Starts.{Stands}
use Rattle.am_merge.proofs.Aimed.{operation_in, stand_sorted, starts_sorted}
use Rattle.am_merge.proofs.added.beginning_places.Goals as goal

pub returns-clause-places : goal.returns-clause-places
returns-clause-places c =
    let A = map operation_of c.args.operations.now in
    let sorted = c.as_slice.ensures.value ∙ c.in_ok-sort_starts.ensures in
    IfOk-weaker c.places_of.result _ _
    (λ all e.
    (e A (subst (All (Stands A)) (sym sorted) (stand_sorted A c.args.starting.items c.requires.stand))).0
    ∙ ap (map operation_in) sorted
    ∙ starts_sorted A c.args.starting.items c.requires.starts c.requires.ascends)
    c.places_of.ensures

pub returns-clause-within : goal.returns-clause-within
returns-clause-within c =
    let A = map operation_of c.args.operations.now in
    let sorted = c.as_slice.ensures.value ∙ c.in_ok-sort_starts.ensures in
    IfOk-weaker c.places_of.result _ _
    (λ all e. subst (λ n. All (λ k. k < n) all.items) (length-map c.args.operations.now operation_of) (e A (subst (All (Stands A)) (sym sorted) (stand_sorted A c.args.starting.items c.requires.stand))).1)
    c.places_of.ensures
