-- Valid sets, whatever their order.
use Rattle.std.proofs.Common.{◌≡◌, List, true, ◌∙◌, All, Contains, IsPermutation}
use Rattle.std.proofs.lemmas.List.Sorted.{IsPermutation-sym, IsPermutation-map, Contains-permutation, list_any-IsPermutation}
use Rattle.am_laws.specs.Records.{Hash}
use Rattle.am_types.specs.Order.{hash_cmp, same}
use Rattle.am_types.specs.Members.{Member, hashes, holds}
use Rattle.am_types.specs.Ancestors.{ancestors}
use Rattle.am_types.specs.ValidSets.{Valid}
use Rattle.am_laws.proofs.Agreement.{ancestors_shared, same_tests, references_agree_all}
use Rattle.am_laws.proofs.Grounds.{Grounds, grounds}

-- ---- what holds of a listing holds of the set in any order

module _ (C L : List Member) (perm : IsPermutation C L) (g : Grounds L) where
  to : (m : Member) → Contains C m → Contains L m
  to m c = Contains-permutation C L m perm c

  back : (m : Member) → Contains L m → Contains C m
  back m c = Contains-permutation L C m (IsPermutation-sym C L perm) c

  held : (h : Hash) → holds L h ≡ true → holds C h ≡ true
  held h t = list_any-IsPermutation (same hash_cmp h) (hashes C) (hashes L) (IsPermutation-map (λ (m : Member). m.hash) C L perm) ∙ t

  closed : (m : Member) → Contains C m → All (λ h. holds C h ≡ true) m.change.deps
  closed m c k d l = held _ (g.facts.closed m (to m c) k d l)

  one : (m n : Member) → Contains L m → Contains C n → m.hash ≡ n.hash → m ≡ n
  one m n cm cn e = g.facts.one_hash m n cm (to n cn) e

  over : (m : Member) → Contains C m → (n : Member) → Contains (ancestors L m.change.deps) n → Contains (ancestors C m.change.deps) n
  over m c n cn = ancestors_shared L C m.change.deps one closed (closed m c) n cn

  under : (m : Member) → Contains C m → (n : Member) → Contains (ancestors C m.change.deps) n → Contains (ancestors L m.change.deps) n
  under m c n cn = ancestors_shared C L m.change.deps (λ a b ca cb e. g.facts.one_hash a b (to a ca) cb e) g.facts.closed (g.facts.closed m (to m c)) n cn

  pub grounds_permuted : Grounds C
  grounds_permuted = record {
    facts = record {
      closed = closed;
      one_hash = λ m n cm cn e. g.facts.one_hash m n (to m cm) (to n cn) e;
      one_seq = λ m n cm cn a e. g.facts.one_seq m n (to m cm) (to n cn) a e;
      positive = λ m c. g.facts.positive m (to m c);
      seqs = λ m c. g.facts.seqs m (to m c);
      ordered = λ m c n cn d. g.facts.ordered m (to m c) n (to n cn) d;
      chained = λ m c l. let f = g.facts.chained m (to m c) l in (f.0, over m c f.0 f.1, f.2, f.3);
    };
    fine = λ m c. g.fine m (to m c);
    references = λ m c. references_agree_all (ancestors C m.change.deps) (ancestors L m.change.deps) m.change (same_tests _ _ (under m c) (over m c)) ∙ g.references m (to m c);
  }

pub grounds_valid : (C : List Member) → Valid C → Grounds C
grounds_valid C v = grounds_permuted C v.listing v.same (grounds v.listing v.in_turn)
