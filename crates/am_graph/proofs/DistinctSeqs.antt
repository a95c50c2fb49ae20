-- The graph of a valid set has each author's seqs once.
use Rattle.std.proofs.Common.{ℕ, suc, ◌≡◌, ◌≤◌, ◌==◌, ◌&&◌, List, [], ◌∷◌, length, true, refl, sym, ap, ◌∙◌, inl, inr, Contains, arith}
use Rattle.std.proofs.lemmas.Bool.{cases_Bool, and_parts, eqb-true}
use Rattle.am_types.specs.Same.{same_bytes}
use Rattle.am_types.specs.Members.{Member, DistinctHashes}
use Rattle.am_types.specs.ValidSets.{Valid}
use Rattle.am_types.proofs.Lists.{Contains-head, Contains-tail}
use Rattle.am_types.proofs.Orders.{same_bytes-true}
use Rattle.am_laws.proofs.Rules.{distinct_hashes}
use Rattle.am_graph.specs.Graphs.{nodes, having, HasDistinctSeqs}
use Rattle.am_graph.proofs.ValidFacts.{valid_facts}

-- equal authors and seqs, equal changes
abbrev OneSeq : List Member → Type 0
OneSeq C = (m n : Member) → Contains C m → Contains C n → m.change.actor ≡ n.change.actor → m.change.seq ≡ n.change.seq → m ≡ n

none_having : (C : List Member) (x : List ℕ) (q : ℕ) → ((n : Member) → Contains C n → (same_bytes x n.change.actor && n.change.seq == q) ≡ true → ⊥) → having (nodes C) x q ≡ []
none_having [] x q none = refl
none_having (m ∷ C) x q none =
    let again : having (nodes C) x q ≡ [] = none_having C x q (λ n c. none n (Contains-tail m C n c)) in
    elim (cases_Bool (same_bytes x m.change.actor && m.change.seq == q)) [
      | inl t ↦ absurd (none m (Contains-head m C) t)
      | inr f ↦ simp f again
    ]

once : (C : List Member) → OneSeq C → DistinctHashes C → (x : List ℕ) (q : ℕ) → length (having (nodes C) x q) ≤ 1
once [] one distinct x q = omega arith
once (m ∷ C) one distinct x q =
    let again : length (having (nodes C) x q) ≤ 1 = once C (λ n k a b. one n k (Contains-tail m C n a) (Contains-tail m C k b)) (λ i j d l b. distinct (suc i) (suc j) d (omega arith) (omega arith)) x q in
    elim (cases_Bool (same_bytes x m.change.actor && m.change.seq == q)) [
      | inl t ↦
          let own = and_parts (same_bytes x m.change.actor) (m.change.seq == q) t in
          let rest : having (nodes C) x q ≡ [] = none_having C x q (λ n c s.
          let its = and_parts (same_bytes x n.change.actor) (n.change.seq == q) s in
          let actors : m.change.actor ≡ n.change.actor = sym (same_bytes-true x m.change.actor own.0) ∙ same_bytes-true x n.change.actor its.0 in
          let seqs : m.change.seq ≡ n.change.seq = eqb-true m.change.seq q own.1 ∙ sym (eqb-true n.change.seq q its.1) in
          let same = one m n (Contains-head m C) (Contains-tail m C n c) actors seqs in
          let short = c.1 in
          distinct 0 (suc c.0) n (omega arith) (omega arith) (ap (λ (k : Member). k.hash) (same ∙ sym c.2))) in
          let none = ap length rest in
          simp t (omega arith)
      | inr f ↦ simp f again
    ]

pub distinct_seqs : (C : List Member) → Valid C → HasDistinctSeqs (nodes C)
distinct_seqs C v = record { once = once C (valid_facts C v).one_seq (distinct_hashes C v) }
