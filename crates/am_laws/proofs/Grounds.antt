-- Where the references of an operation of a listed set lie.
use Rattle.std.proofs.Common.{ℕ, ◌≡◌, ◌+◌, ◌<◌, ◌≤◌, List, [], ◌∷◌, ◌++◌, true, false, Option, Some, None, option_map, sym, ap, subst, inl, inr, ◌⊎◌, All, Contains, length, arith}
use Rattle.std.proofs.lemmas.Bool.{cases_Bool}
use Rattle.std.proofs.lemmas.List.{append_assoc, append-nil}
use Rattle.std.proofs.lemmas.List.Elements.{All-cons, All-nil, Contains-push_cases, Contains-append_cases}
use Rattle.std.proofs.lemmas.List.Sums.{AllPass-from_list_all}
use Rattle.am_laws.specs.Records.{Hash, Op, BadReference}
use Rattle.am_types.specs.Operations.{Operation, numbered, operations, all_operations, max}
use Rattle.am_types.specs.Fine.{Fine}
use Rattle.am_types.specs.Members.{Member, changes, holds}
use Rattle.am_types.specs.Ancestors.{ancestors}
use Rattle.am_types.specs.References.{has_good_references, first_bad}
use Rattle.am_types.specs.Verdicts.{bad_reference}
use Rattle.am_types.specs.ValidSets.{Joins, JoinInTurn}
use Rattle.am_laws.proofs.Growth.{ancestors_stay}
use Rattle.am_laws.proofs.VerdictLaws.{fits_by}
use Rattle.am_laws.proofs.Counters.{mapped_none, starts_after_ancestors}
use Rattle.am_laws.proofs.Listed.{Facts, facts_push, no_facts}
use Rattle.am_laws.proofs.DistinctIds.{ancestor_is_member, operation_of, numbered_at}
use Rattle.am_types.proofs.Lists.{Contains-head, Contains-tail}

-- ---- what a listing gives beside its facts

pub record Grounds (C : List Member) : Type 0 where
  pub facts : Facts C
  pub fine : (m : Member) → Contains C m → Fine m.change
  pub references : (m : Member) → Contains C m → bad_reference (ancestors C m.change.deps) m.change ≡ None

pushed : (P : Member → Type 0) (C : List Member) (x : Member) → ((m : Member) → Contains C m → P m) → P x → (m : Member) → Contains (C ++ x ∷ []) m → P m
pushed P C x f p m c = elim (Contains-push_cases C x m c) [ inl i ↦ f m i | inr e ↦ subst P e p ]

pub grounds_push : (C : List Member) (x : Member) → Grounds C → Joins C x → Grounds (C ++ x ∷ [])
grounds_push C x g joins =
    let deps_held : All (λ h. holds C h ≡ true) x.change.deps = AllPass-from_list_all (holds C) x.change.deps joins.deps in
    let fresh : All (λ m. holds C m.hash ≡ false) (x ∷ []) = All-cons (λ m. holds C m.hash ≡ false) x [] joins.fresh (All-nil (λ m. holds C m.hash ≡ false)) in
    let stay : (hs : List Hash) → All (λ h. holds C h ≡ true) hs → ancestors (C ++ x ∷ []) hs ≡ ancestors C hs = λ hs held. ancestors_stay C (x ∷ []) hs g.facts.closed held fresh in
    record {
      facts = facts_push C x g.facts joins;
      fine = pushed (λ m. Fine m.change) C x g.fine joins.fine;
      references = pushed (λ m. bad_reference (ancestors (C ++ x ∷ []) m.change.deps) m.change ≡ None) C x
          (λ m c. subst (λ A. bad_reference A m.change ≡ None) (sym (stay m.change.deps (g.facts.closed m c))) (g.references m c))
          (subst (λ A. bad_reference A x.change ≡ None) (sym (stay x.change.deps deps_held)) (fits_by C x.change joins.fits).references);
    }

pub grounds_from : (before rest : List Member) → Grounds before → JoinInTurn before rest → Grounds (before ++ rest)
grounds_from before [] g turn = subst Grounds (sym (append-nil before)) g
grounds_from before (x ∷ rest) g turn = subst Grounds (append_assoc before (x ∷ []) rest) (grounds_from (before ++ x ∷ []) rest (grounds_push before x g turn.0) turn.1)

pub grounds : (C : List Member) → JoinInTurn [] C → Grounds C
grounds C turn = grounds_from [] C (record { facts = no_facts; fine = λ m c. absurd (omega (arith, c.1)); references = λ m c. absurd (omega (arith, c.1)) }) turn

-- ---- the operations before one

no_bad_head : (known : List Operation) (x : Operation) (xs : List Operation) → first_bad known (x ∷ xs) ≡ None → (has_good_references known x ≡ true) × (first_bad (known ++ x ∷ []) xs ≡ None)
no_bad_head known x xs e =
    let rest : Option ℕ = first_bad (known ++ x ∷ []) xs in
    elim (cases_Bool (has_good_references known x)) [
      | inl t ↦ let f : option_map (λ i. i + 1) rest ≡ None = simp t at e in (t, mapped_none (λ i. i + 1) rest f)
      | inr t ↦ let zero_place : ℕ = 0 in let f : Some zero_place ≡ None = simp t at e in absurd (no_some zero_place f)
    ]
  where
    no_some : (i : ℕ) → Some i ≡ None → ⊥
    no_some i f = cc

-- the references of x are good among some operations, each of which is known or of the same change, and has a lower counter
pub record Before (known own : List Operation) (x : Operation) : Type 0 where
  pub seen : List Operation
  pub good : has_good_references seen x ≡ true
  pub from : (y : Operation) → Contains seen y → (Contains known y ⊎ Contains own y) × (y.id.counter < x.id.counter)

before_each : (known : List Operation) (s : ℕ) (a : List ℕ) (ops : List Op) → ((y : Operation) → Contains known y → y.id.counter < s) → first_bad known (numbered s a ops) ≡ None → (x : Operation) → Contains (numbered s a ops) x → Before known (numbered s a ops) x
before_each known s a [] low none x c = absurd (omega (arith, c.1))
before_each known s a (op ∷ ops) low none x c =
    let first : Operation = record { id = record { counter = s; actor = a }; op = op } in
    let later : List Operation = numbered (s + 1) a ops in
    let parts : (has_good_references known first ≡ true) × (first_bad (known ++ first ∷ []) later ≡ None) = no_bad_head known first later none in
    let low_more : (y : Operation) → Contains (known ++ first ∷ []) y → y.id.counter < s + 1 = λ y cy. elim (Contains-push_cases known first y cy) [
      | inl k ↦ let l = low y k in omega arith
      | inr e ↦ let f : s ≡ y.id.counter = ap (λ (z : Operation). z.id.counter) e in omega arith
    ] in
    let again : (x : Operation) → Contains later x → Before (known ++ first ∷ []) later x = before_each (known ++ first ∷ []) (s + 1) a ops low_more parts.1 in
    elim (Contains-append_cases (first ∷ []) later x c) [
      | inl h ↦ let e : first ≡ x = only first x h in
          subst (Before known (first ∷ later)) e (record { seen = known; good = parts.0; from = λ y cy. (inl cy, low y cy) })
      | inr t ↦ let b = again x t in
          record {
            seen = b.seen;
            good = b.good;
            from = λ y cy. let f = b.from y cy in (
              elim f.0 [
                | inl k ↦ elim (Contains-push_cases known first y k) [ inl k ↦ inl k | inr e ↦ inr (subst (Contains (first ∷ later)) e (Contains-head first later)) ]
                | inr o ↦ inr (Contains-tail first later y o)
              ],
              f.1,
            );
          }
    ]
  where
    only : (z x : Operation) → Contains (z ∷ []) x → z ≡ x
    only z x h = elim (Contains-push_cases [] z x h) [ inl n ↦ absurd (omega (arith, n.1)) | inr e ↦ e ]

-- the end of a change lies at or above each of its operations, its start at or below
pub counter_bounds : (m : Member) → 1 ≤ m.change.start → (x : Operation) → Contains (operations m.change) x → (m.change.start ≤ x.id.counter) × (x.id.counter ≤ max m.change) × (x.id.actor ≡ m.change.actor)
counter_bounds m some x c =
    let p = numbered_at m.change.start m.change.actor m.change.ops x c.0 c.1 c.2 in
    let i = p.0 in
    let e : x.id.counter ≡ m.change.start + i = ap (λ z. z.id.counter) p.1.1 in
    let l : i < length m.change.ops = p.1.0 in
    (omega arith, omega arith, ap (λ z. z.id.actor) p.1.1)

-- an operation of a set, its change, and what its references are among
pub record Placed (C : List Member) (x : Operation) : Type 0 where
  pub of : Member
  pub is_member : Contains C of
  pub is_own : Contains (operations of.change) x
  pub before : Before (all_operations (changes (ancestors C of.change.deps))) (operations of.change) x

pub placed : (C : List Member) → Grounds C → (x : Operation) → Contains (all_operations (changes C)) x → Placed C x
placed C g x c =
    let o = operation_of C x c in
    let m = o.0 in
    let A : List Member = ancestors C m.change.deps in
    let low : (y : Operation) → Contains (all_operations (changes A)) y → y.id.counter < m.change.start = λ y cy.
    let p = operation_of A y cy in
    let below = starts_after_ancestors C m.change g.facts.ordered g.facts.positive (g.facts.ordered m o.1) p.0 p.1 in
    let b = counter_bounds p.0 (g.facts.positive p.0 (ancestor_is_member C m.change.deps p.0 p.1)) y p.2 in
    let le = b.1 in
    omega arith in
    record {
      of = m;
      is_member = o.1;
      is_own = o.2;
      before = before_each (all_operations (changes A)) m.change.start m.change.actor m.change.ops low (mapped_none BadReference _ (g.references m o.1)) x o.2;
    }
