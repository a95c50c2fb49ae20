-- A change that is a valid set together with others brings new ids, and keeps the limits.
use Rattle.std.proofs.Common.{ℕ, ◌≡◌, ◌+◌, ◌<◌, ◌≤◌, ◌^◌, List, [], ◌∷◌, ◌++◌, length, get_or, Option, Some, None, refl, sym, ap, ◌∙◌, subst, All, Contains, arith}
use Rattle.std.proofs.lemmas.List.{flat_map_more, get_or_append_left, get_or-append-add, get_or_default, length-append}
use Rattle.std.proofs.lemmas.List.Elements.{All-contains, Contains-push}
use Rattle.am_types.specs.declared.Change.{Change}
use Rattle.am_types.specs.Fine.{Fine}
use Rattle.am_types.specs.Operations.{Operation, operations, all_operations, DistinctIds, max}
use Rattle.am_types.specs.Members.{Member}
use Rattle.am_types.specs.Totals.{totals_of, AreWithinLimits}
use Rattle.am_types.specs.Deliver.{MayCome}
use Rattle.am_laws.proofs.DistinctOperations.{distinct_ids_valid}
use Rattle.am_types.proofs.Orders.{same_id-true}
use Rattle.am_laws.proofs.Rules.{keeps_rules}
use Rattle.am_fits.specs.Facts.{Fact, facts, fact_with}
use Rattle.am_fits.specs.Indexes.{Indexed, MayAdmit}
use Rattle.am_fits.proofs.KnownBy.{fact_found}
use Rattle.am_fits.proofs.SeqLaws.{mapped_from}
use Rattle.am_fits.proofs.Sums.{set_within, totals_push}

operations_more : (cs : List Change) (c : Change) → all_operations (cs ++ c ∷ []) ≡ all_operations cs ++ operations c
operations_more cs c = sym (flat_map_more operations [] cs c)

module _ (ix : Indexed) (c : Change) (may : MayAdmit ix c) where
  abbrev before : List Operation
  before = all_operations may.set

  distinct : DistinctIds (before ++ operations c)
  distinct = subst DistinctIds (ap all_operations may.valid.are ∙ operations_more may.set c) (distinct_ids_valid may.valid.set may.valid.valid)

  none_of : (k : ℕ) (d : Operation) → k < length (operations c) → (o : Option Fact) → fact_with (facts before) (get_or (operations c) k d).id ≡ o → o ≡ None
  none_of k d l None e = refl
  none_of k d l (Some f) e =
      let g = fact_found before (get_or (operations c) k d).id f e in
      let y = g.0 in
      let at = g.1 in
      let inside : at.0 < length before = at.1 in
      let size = length-append before (operations c) in
      let left : get_or (before ++ operations c) at.0 y ≡ y = get_or_append_left before (operations c) y at.0 inside ∙ at.2 in
      let right : get_or (before ++ operations c) (length before + k) y ≡ get_or (operations c) k d = get_or-append-add before (operations c) k y ∙ get_or_default (operations c) k y d l in
      absurd (distinct at.0 (length before + k) y (omega arith) (omega arith)
      (ap (λ (x : Operation). x.id) left ∙ same_id-true y.id (get_or (operations c) k d).id g.2 ∙ sym (ap (λ (x : Operation). x.id) right)))

  -- no operation that is there has an id of the change
  pub ids_new : All (λ x. fact_with ix.facts x.id ≡ None) (operations c)
  ids_new = subst (λ i. All (λ x. fact_with i.facts x.id ≡ None) (operations c)) (sym may.of_set) (λ k d l. none_of k d l _ refl)

  pub is_fine : Fine c
  is_fine =
      let m = mapped_from (λ (m : Member). m.change) may.valid.set c (subst (λ cs. Contains cs c) (sym may.valid.are) (Contains-push may.set c)) in
      subst Fine m.2 (All-contains MayCome may.valid.set m.0 (keeps_rules may.valid.set may.valid.valid).members m.1).fine

  pub end_low : c.start + length c.ops ≤ 2 ^ 53
  end_low = let f = is_fine in let low : 1 ≤ c.start = f.numbers.start in let high : max c < 2 ^ 53 = f.numbers.max in omega arith

  pub totals_low : AreWithinLimits ix.totals
  totals_low =
      let whole : AreWithinLimits (totals_of (may.set ++ c ∷ [])) = subst (λ cs. AreWithinLimits (totals_of cs)) may.valid.are (set_within may.valid.set may.valid.valid) in
      let more = totals_push may.set c in
      let a = whole.changes in let b = whole.operations in let d = whole.preds in let e = whole.links in
      let p = ap (λ t. t.changes) more in let q = ap (λ t. t.operations) more in let r = ap (λ t. t.preds) more in let s = ap (λ t. t.links) more in
      subst (λ i. AreWithinLimits i.totals) (sym may.of_set) (record { changes = omega arith; operations = omega arith; preds = omega arith; links = omega arith })
