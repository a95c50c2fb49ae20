-- What each step of the judgement says of the verdict.
use Rattle.std.proofs.Common.{ℕ, ◌≡◌, List, true, false, not, Option, Some, None, option_map, refl, sym, ap, ◌∙◌, subst, ◌<◌, length}
use Rattle.std.specs.Bool.{then_some}
use Rattle.am_types.specs.declared.Hash.{Hash}
use Rattle.am_types.specs.declared.Change.{Change}
use Rattle.am_types.specs.declared.Limit.{Limit}
use Rattle.am_types.specs.declared.Verdict.TheVariants.{Fits, SeqClash, SeqGap, StartLow, BadReference, Full}
use Rattle.am_types.specs.Members.{Member, changes, holds, holds_deps}
use Rattle.std.proofs.lemmas.Bool.{both_ways}
use Rattle.std.proofs.lemmas.List.Elements.{All-contains}
use Rattle.std.proofs.lemmas.List.Sums.{AllPass-from_list_all}
use Rattle.am_graph.proofs.Held.{held_of_set}
use Rattle.am_types.specs.Ancestors.{ancestors}
use Rattle.am_types.specs.Totals.{totals_with, limit_of}
use Rattle.am_types.specs.ValidSets.{Valid}
use Rattle.am_types.specs.Verdicts.{verdict, seq_clash, seq_gap, start_low, bad_reference, full}
use Rattle.am_laws.proofs.Listed.{Facts}
use Rattle.am_graph.specs.declared.node.Node.{Node}
use Rattle.am_graph.specs.declared.reach.Reach.{Reach}
use Rattle.am_graph.specs.Clocks.{IsClockOf}
use Rattle.am_graph.specs.Graphs.{ForSet, having, is_held, missing, IsLeast}
use Rattle.am_graph.proofs.ValidFacts.{valid_facts}
use Rattle.am_types.specs.declared.OpId.{OpId}
use Rattle.am_fits.specs.Facts.{Fact}
use Rattle.am_fits.specs.Indexes.{Indexed, AreOf}
use Rattle.am_fits.specs.Past.{Past}
use Rattle.am_fits.specs.Told.{IsGoodAt, IsFirstBad}
use Rattle.am_fits.proofs.SeqLaws.{find_passes, gap_told, low_told, clash_is, gap_is, low_is}
use Rattle.am_fits.proofs.Sums.{limit_is}
use Rattle.am_fits.proofs.Telling.{bad_found, bad_none}

module _ (g : List (Hash × Node)) (ix : Indexed) (c : Change) (C : List Member) (are : AreOf C g ix) (valid : Valid C) where
  abbrev A : List Member
  A = ancestors C c.deps

  is : Facts C
  is = valid_facts C valid

  clashes : (o : Option Hash) → IsLeast o (having g c.actor c.seq) → option_map SeqClash o ≡ seq_clash C c
  clashes o least = clash_is C is c o (subst (λ g. IsLeast o (having g c.actor c.seq)) are.graph least)

  pub by_clash : (h : Hash) → IsLeast (Some h) (having g c.actor c.seq) → SeqClash h ≡ verdict C c
  unfolding verdict
  by_clash h least = rw (← clashes (Some h) least) refl

  module _ (least : IsLeast None (having g c.actor c.seq)) (clock : List (List ℕ × Reach)) (of : ForSet g (λ C. IsClockOf (ancestors C c.deps) clock)) where
    clash_none : seq_clash C c ≡ None
    clash_none = sym (clashes None least)

    clock_of : IsClockOf (ancestors C c.deps) clock
    clock_of = of C are.graph

    gap_by : then_some (gap_told clock c) SeqGap ≡ seq_gap A c
    gap_by = gap_is C is c clock clock_of

    pub by_gap : gap_told clock c ≡ true → SeqGap ≡ verdict C c
    unfolding verdict
    by_gap e = let gap : seq_gap A c ≡ Some SeqGap = sym gap_by ∙ ap (λ b. then_some b SeqGap) e in rw (clash_none, gap) refl

    module _ (no_gap : gap_told clock c ≡ false) where
      gap_none : seq_gap A c ≡ None
      gap_none = sym gap_by ∙ ap (λ b. then_some b SeqGap) no_gap

      pub by_low : (h : Hash) → ForSet g (λ C. Some h ≡ low_told C c) → StartLow h ≡ verdict C c
      unfolding verdict
      by_low h e = let low : start_low A c ≡ Some (StartLow h) = sym (low_is C is c) ∙ ap (option_map StartLow) (sym (e C are.graph)) in rw (clash_none, gap_none, low) refl

      module _ (not_low : ForSet g (λ C. None ≡ low_told C c)) where
        low_none : start_low A c ≡ None
        low_none = sym (low_is C is c) ∙ ap (option_map StartLow) (sym (not_low C are.graph))

        pub by_reference : (k : ℕ) → IsFirstBad clock ix.facts c k → BadReference k ≡ verdict C c
        unfolding verdict
        by_reference k bad =
            let at : IsFirstBad clock _ c k = subst (λ i. IsFirstBad clock i.facts c k) are.index bad in
            let low : bad_reference A c ≡ Some (BadReference k) = ap (option_map BadReference) (bad_found C is c clock clock_of k at) in
            rw (clash_none, gap_none, low_none, low) refl

        module _ (good : (k : ℕ) → k < length c.ops → IsGoodAt clock ix.facts c k) where
          references_none : bad_reference A c ≡ None
          references_none = ap (option_map BadReference) (bad_none C is c clock clock_of (subst (λ i. (k : ℕ) → k < length c.ops → IsGoodAt clock i.facts c k) are.index good))

          limit_by : (o : Option Limit) → o ≡ limit_of (totals_with ix.totals c) → option_map Full o ≡ full C c
          limit_by o e = ap (option_map Full) (e ∙ ap (λ i. limit_of (totals_with i.totals c)) are.index ∙ limit_is (changes C) c)

          pub by_limit : (l : Limit) → Some l ≡ limit_of (totals_with ix.totals c) → Full l ≡ verdict C c
          unfolding verdict
          by_limit l e = let f = sym (limit_by (Some l) e) in rw (clash_none, gap_none, low_none, references_none, f) refl

          pub by_none : None ≡ limit_of (totals_with ix.totals c) → Fits ≡ verdict C c
          unfolding verdict
          by_none e = let f = sym (limit_by None e) in rw (clash_none, gap_none, low_none, references_none, f) refl

-- where the dependencies are held, none is missing
pub nothing_missing : (g : List (Hash × Node)) (ix : Indexed) (c : Change) (C : List Member) → AreOf C g ix → holds_deps C c ≡ true → (h : Hash) → missing g c.deps ≡ Some h → ⊥
nothing_missing g ix c C are held h e =
    let p = find_passes (λ h. not (is_held g h)) c.deps h e in
    let t : is_held g h ≡ true = held_of_set g C h are.graph ∙ All-contains (λ h. holds C h ≡ true) c.deps h (AllPass-from_list_all (holds C) c.deps held) p.0 in
    both_ways false refl (sym (ap not t) ∙ p.1)

-- what is told of ancestors that have this clock, of operations with these facts
module _ (p : Past) (clock : List (List ℕ × Reach)) (fs : List (OpId × Fact)) (c : Change) where
  pub bad_of : (k : ℕ) → p.clock ≡ clock → p.facts ≡ fs → IsFirstBad p.clock p.facts c k → IsFirstBad clock fs c k
  bad_of k e f h = subst (λ gs. IsFirstBad clock gs c k) f (subst (λ x. IsFirstBad x p.facts c k) e h)

  pub good_of : p.clock ≡ clock → p.facts ≡ fs → ((k : ℕ) → k < length c.ops → IsGoodAt p.clock p.facts c k) → (k : ℕ) → k < length c.ops → IsGoodAt clock fs c k
  good_of e f h = subst (λ gs. (k : ℕ) → k < length c.ops → IsGoodAt clock gs c k) f (subst (λ x. (k : ℕ) → k < length c.ops → IsGoodAt x p.facts c k) e h)
