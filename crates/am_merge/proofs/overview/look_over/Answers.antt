use Rattle.std.proofs.Common.{◌≡◌, ◌∙◌, ◌++◌, ◌∷◌, ◌<◌, ◌≤◌, [], List, ap, filter, length, map, reverse, subst, sym, take}
use Rattle.std.proofs.lemmas.List.{length-map, take_all}
use Rattle.std.proofs.lemmas.List.Concat.{flat_map-append}
use Rattle.std.proofs.lemmas.List.Elements.{filter-append}
use Rattle.am_types.specs.Operations.{Operation}
use Rattle.am_places.specs.Numbered.{operation_of}
use Rattle.am_merge.specs.Aims.{AreAims, means_element, means_id, one_at}
use Rattle.am_merge.specs.Naming.{Named, naming_each, predecessors, reference, references}
use Rattle.am_merge.specs.Walk.{gives_value, hanging, inserts, starts}
use Rattle.am_merge.proofs.AimLaws.{aims_turned, chosen_turned, join, one_chosen, one_further, one_taken}
use Rattle.am_merge.proofs.Aimed.{one_there}
use Rattle.am_merge.proofs.overview.look_over.Goals as goal

pub loop-place-preserved : goal.loop-place-preserved
loop-place-preserved c =
    let ns = c.args.operations.now in
    let A = map operation_of ns in
    let k = c.loop-place.place in
    let within : k < length A = simp length-map c.loop-place-test.true in
    let n = c.index-operations-place.result in
    let x = operation_of n in
    let here : one_at A k ≡ x ∷ [] = one_there ns k n c.loop-place-test.true c.index-operations-place.is in
    let before = c.loop-place.invariant in
    record {
      named = subst (λ (l : List Named). AreAims means_id A l c.push_predecessors.new.aims.items) (one_further naming_each A k x here) (c.in_ok-push_predecessors.ensures (predecessors (take k A)) x here before.named);
      hung = subst (λ (l : List Named). AreAims means_element A l c.push_insertion.new.aims.items) (one_chosen inserts A k x here) (c.in_ok-push_insertion.ensures (references (filter inserts (take k A))) x here before.hung);
      values = subst (λ (l : List Named). AreAims means_element A l c.push_value.new.aims.items) (one_chosen gives_value A k x here) (c.in_ok-push_value.ensures (references (filter gives_value (take k A))) x here before.values);
      starts =
          c.in_ok-push_start.ensures.starts
          ∙ ap (λ l. l ++ filter starts (x ∷ [])) before.starts
          ∙ sym (filter-append starts (take k A) (x ∷ []))
          ∙ ap (filter starts) (sym (one_taken A k x here));
      stand = c.in_ok-push_start.ensures.stand A within here before.stand;
    }

pub returns-clause-hung : goal.returns-clause-hung
returns-clause-hung c =
    let A = map operation_of c.args.operations.now in
    let k = c.loop-place.place in
    let most : length A ≤ k = simp length-map c.loop-place-test.false in
    let whole : take k A ≡ A = take_all k A most in
    let before = c.loop-place.invariant in
    let hung = c.loop-place.hung.items in
    let values = c.loop-place.values.items in
    let first = subst (λ (l : List Operation). AreAims means_element A (references (filter inserts l)) hung) whole before.hung in
    let second = subst (λ (l : List Operation). AreAims means_element A (references (filter gives_value l)) values) whole before.values in
    let both = join means_element A (references (filter inserts A)) (reverse (references (filter gives_value A))) hung (reverse values) first (aims_turned means_element A (references (filter gives_value A)) values second) in
    subst (AreAims means_element A (references (hanging A))) (sym c.in_ok-push_reversed.ensures)
    (subst (λ (l : List Named). AreAims means_element A l (hung ++ reverse values))
    (ap (λ l. references (filter inserts A) ++ l) (sym (chosen_turned gives_value A)) ∙ sym (flat_map-append reference (filter inserts A) (filter gives_value (reverse A))))
    both)
