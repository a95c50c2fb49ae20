-- A look-up by key finds what stands beside the id that the key stands for.
use Rattle.std.proofs.Common.{ℕ, suc, ◌≡◌, ◌==◌, List, [], ◌∷◌, map, true, false, Some, None, option_map, refl, sym, ap, ◌∙◌, subst, inl, inr, All, cond, arith, eq-eqb}
use Rattle.std.specs.Map.{lookup}
use Rattle.std.proofs.lemmas.Bool.{cases_Bool, and_from, and_parts, eqb-true}
use Rattle.am_types.specs.declared.OpId.{OpId}
use Rattle.am_types.specs.Same.{same_id}
use Rattle.am_types.proofs.Orders.{same_id-true, same_id_itself}
use Rattle.am_laws.proofs.Growth.{same_answers}
use Rattle.am_graph.specs.Reaches.{number}
use Rattle.am_fits.specs.declared.table.IdKey.{IdKey}
use Rattle.am_fits.specs.declared.table.Kept.{Kept}
use Rattle.am_fits.specs.contracts.table.IdKeyPartialEq.TheImpl as equality
use Rattle.am_fits.specs.Facts.{fact_with}
use Rattle.am_fits.specs.Words.{Words, id_in, fact_in, entry_in, IsIdOf, IsKept, AreKept}
use Rattle.am_fits.proofs.Interned.{id_is}

pub same_key-true : (a b : IdKey) → equality.eq-value.it a b ≡ true → a ≡ b
same_key-true a b e = let p = and_parts (a.author == b.author) (a.counter == b.counter) e in λ j. record { author = eqb-true a.author b.author p.0 j; counter = eqb-true a.counter b.counter p.1 j }

pub same_key_itself : (a : IdKey) → equality.eq-value.it a a ≡ true
same_key_itself a = and_from (a.author == a.author) (a.counter == a.counter) (eq-eqb a.author a.author refl) (eq-eqb a.counter a.counter refl)

some_same : (a b : ℕ) → Some a ≡ Some b → a ≡ b
some_same a b e = cc

module _ (w : Words) (i : OpId) where
  -- the key of an entry is that of the id exactly where it means the id
  test_same : (k : IdKey) → IsIdOf w k i → (e : IdKey) → IsIdOf w e (id_in w e) → same_id (id_in w e) i ≡ equality.eq-value.it k e
  test_same k of e own = same_answers (same_id (id_in w e) i) (equality.eq-value.it k e) to back
    where
      to : same_id (id_in w e) i ≡ true → equality.eq-value.it k e ≡ true
      to t =
          let is : id_in w e ≡ i = same_id-true (id_in w e) i t in
          let e_of : IsIdOf w e i = subst (IsIdOf w e) is own in
          let same : k ≡ e = λ j. record { author = some_same k.author e.author (sym of.0 ∙ e_of.0) j; counter = (of.1 ∙ sym e_of.1) j } in
          subst (λ z. equality.eq-value.it k z ≡ true) same (same_key_itself k)

      back : equality.eq-value.it k e ≡ true → same_id (id_in w e) i ≡ true
      back t =
          let is : id_in w e ≡ i = ap (id_in w) (sym (same_key-true k e t)) ∙ id_is w k i of in
          ap (λ z. same_id z i) is ∙ same_id_itself i

  -- what stands beside the key
  pub looked_up : (k : IdKey) → IsIdOf w k i → (es : List (IdKey × Kept)) → AreKept w es → option_map (fact_in w) (lookup (equality.eq-value.it k) es) ≡ fact_with (map (entry_in w) es) i
  looked_up k of es h = go es h.each
    where
      go : (es : List (IdKey × Kept)) → All (IsKept w) es → option_map (fact_in w) (lookup (equality.eq-value.it k) es) ≡ fact_with (map (entry_in w) es) i
      go [] all = refl
      go (e ∷ es) all =
          let again : option_map (fact_in w) (lookup (equality.eq-value.it k) es) ≡ fact_with (map (entry_in w) es) i = go es (λ n d l. all (suc n) d (omega arith)) in
          let same : same_id (id_in w e.0) i ≡ equality.eq-value.it k e.0 = test_same k of e.0 (all 0 e (omega arith)).0 in
          elim (cases_Bool (equality.eq-value.it k e.0)) [
            | inl t ↦ let f : same_id (id_in w e.0) i ≡ true = same ∙ t in
                ap (λ b. option_map (fact_in w) (cond b (Some e.1) (lookup (equality.eq-value.it k) es))) t ∙ sym (ap (λ b. cond b (Some (fact_in w e.1)) (fact_with (map (entry_in w) es) i)) f)
            | inr t ↦ let f : same_id (id_in w e.0) i ≡ false = same ∙ t in
                ap (λ b. option_map (fact_in w) (cond b (Some e.1) (lookup (equality.eq-value.it k) es))) t ∙ again ∙ sym (ap (λ b. cond b (Some (fact_in w e.1)) (fact_with (map (entry_in w) es) i)) f)
          ]

  -- an actor without a number has no operations
  pub not_found : number w.authors i.actor ≡ None → (es : List (IdKey × Kept)) → AreKept w es → None ≡ fact_with (map (entry_in w) es) i
  not_found none es h = go es h.each
    where
      clash : (a : ℕ) → None ≡ Some a → ⊥
      clash a e = cc

      go : (es : List (IdKey × Kept)) → All (IsKept w) es → None ≡ fact_with (map (entry_in w) es) i
      go [] all = refl
      go (e ∷ es) all =
          let again : None ≡ fact_with (map (entry_in w) es) i = go es (λ n d l. all (suc n) d (omega arith)) in
          elim (cases_Bool (same_id (id_in w e.0) i)) [
            | inl t ↦ let e_of : IsIdOf w e.0 i = subst (IsIdOf w e.0) (same_id-true (id_in w e.0) i t) (all 0 e (omega arith)).0 in absurd (clash e.0.author (sym none ∙ e_of.0))
            | inr t ↦ again ∙ sym (ap (λ b. cond b (Some (fact_in w e.1)) (fact_with (map (entry_in w) es) i)) t)
          ]
