-- An index of changes, cut to the first of them.
use Rattle.std.proofs.Common.{◌≡◌, ◌+◌, List, [], ◌∷◌, ◌++◌, length, take, refl, sym, ap, ◌∙◌, arith}
use Rattle.std.proofs.lemmas.Grind.{flat_map-append}
use Rattle.std.proofs.lemmas.List.{map-append, length-map, length-append, take_at}
use Rattle.std.proofs.lemmas.List.Sums.{sum_by-cons}
use Rattle.am_types.specs.declared.OpId.{OpId}
use Rattle.am_types.specs.declared.Change.{Change}
use Rattle.am_types.specs.declared.Totals.{Totals}
use Rattle.am_types.specs.Operations.{Operation, operations, all_operations}
use Rattle.am_types.specs.Totals.{totals_of}
use Rattle.am_fits.specs.Facts.{Fact, fact_of, facts, facts_of}
use Rattle.am_fits.specs.Indexes.{Indexed, index_of}
use Rattle.am_fits.proofs.OwnOperations.{length-operations}

operation_count : (cs : List Change) → length (facts_of cs) ≡ (totals_of cs).operations
operation_count [] = refl
operation_count (c ∷ cs) =
    let again : length (facts_of cs) ≡ (totals_of cs).operations = operation_count cs in
    let first = length-operations c in
    let told : Operation → OpId × Fact = λ x. (x.id, fact_of x) in
    let mapped : length (facts_of (c ∷ cs)) ≡ length (operations c ++ all_operations cs) = length-map (operations c ++ all_operations cs) told in
    let rest : length (facts_of cs) ≡ length (all_operations cs) = length-map (all_operations cs) told in
    let joined = length-append (operations c) (all_operations cs) in
    let total : (totals_of (c ∷ cs)).operations ≡ (totals_of cs).operations + length c.ops = omega (arith, sum_by-cons (λ (c : Change). length c.ops) c cs) in
    omega arith

facts_append : (cs ds : List Change) → facts_of (cs ++ ds) ≡ facts_of cs ++ facts_of ds
facts_append cs ds = ap facts (flat_map-append operations cs ds) ∙ map-append (λ (x : Operation). (x.id, fact_of x)) (all_operations cs) (all_operations ds)

pub kept_index : (old new : Indexed) (totals : Totals) → new.facts ≡ take totals.operations old.facts → new.totals ≡ totals
    → (kept others : List Change) → old ≡ index_of (kept ++ others) → totals ≡ totals_of kept → new ≡ index_of kept
kept_index old new totals cut same kept others is are =
    let count = operation_count kept ∙ ap (λ (t : Totals). t.operations) (sym are) in
    let first : new.facts ≡ facts_of kept = cut ∙ ap (take totals.operations) (ap (λ (x : Indexed). x.facts) is ∙ facts_append kept others) ∙ take_at (facts_of kept) (facts_of others) totals.operations count in
    λ i. record { facts = first i; totals = (same ∙ are) i }
