-- In a listed set no two operations have one id.
use Rattle.std.proofs.Common.{ℕ, zero, suc, ◌≡◌, ◌+◌, ◌-◌, ◌<◌, List, [], ◌∷◌, refl, sym, ap, ◌∙◌, subst, inl, inr, All, Contains, get_or, length, arith}
use Rattle.std.proofs.lemmas.Bool.{cases_order}
use Rattle.std.proofs.lemmas.List.{get_or_default}
use Rattle.std.proofs.lemmas.List.Elements.{All-contains, Contains-append_cases}
use Rattle.am_laws.specs.Records.{Hash, Op}
use Rattle.am_types.specs.Operations.{Operation, numbered, operations, all_operations, max, OneOperationPerId}
use Rattle.am_types.specs.Members.{Member, changes}
use Rattle.am_types.specs.Ancestors.{is_named, ancestor_hashes, ancestors}
use Rattle.am_types.specs.ValidSets.{JoinInTurn}
use Rattle.am_laws.proofs.Growth.{among_at, found_among}
use Rattle.am_laws.proofs.Ancestry.{ancestors_closed, ancestors_least, Contains-from_filter}
use Rattle.am_laws.proofs.Counters.{starts_after_ancestors}
use Rattle.am_laws.proofs.Listed.{Facts, listed}

-- an ancestor's ancestors are ancestors
pub ancestors_trans : (C : List Member) (hs : List Hash) (p n : Member) → Contains (ancestors C hs) p → Contains (ancestors C p.change.deps) n → Contains (ancestors C hs) n
unfolding ancestors
ancestors_trans C hs p n cp cn =
    let Q : Hash → Type 0 = λ h. (m : Member) → Contains C m → m.hash ≡ h → Contains (ancestors C hs) m in
    let all : All Q (ancestor_hashes C p.change.deps) =
    ancestors_least C Q
    (λ m cm q k d l x cx e. ancestors_closed C hs m x (q m cm refl) (among_at m.change.deps x.hash d k l e) cx)
    p.change.deps (λ k d l x cx e. ancestors_closed C hs p x cp (among_at p.change.deps x.hash d k l e) cx) in
    let is = Contains-from_filter (is_named (ancestor_hashes C p.change.deps)) C n cn in
    All-contains Q (ancestor_hashes C p.change.deps) n.hash all (found_among _ n.hash is.1) n is.0 refl

pub ancestor_is_member : (C : List Member) (hs : List Hash) (m : Member) → Contains (ancestors C hs) m → Contains C m
unfolding ancestors
ancestor_is_member C hs m c = (Contains-from_filter (is_named (ancestor_hashes C hs)) C m c).0

module _ (C : List Member) (facts : Facts C) where
  -- an earlier change of the actor is an ancestor
  pub earlier : (d : ℕ) (m n : Member) → Contains C m → Contains C n → m.change.actor ≡ n.change.actor → n.change.seq + suc d ≡ m.change.seq → Contains (ancestors C m.change.deps) n
  earlier zero m n cm cn a e =
      let some = facts.seqs n cn in
      let f = facts.chained m cm (omega arith) in
      let cp = ancestor_is_member C m.change.deps f.0 f.1 in
      subst (Contains (ancestors C m.change.deps)) (facts.one_seq f.0 n cp cn (f.2 ∙ a) (let g = f.3 in omega arith)) f.1
  earlier (suc d) m n cm cn a e =
      let some = facts.seqs n cn in
      let f = facts.chained m cm (omega arith) in
      let cp = ancestor_is_member C m.change.deps f.0 f.1 in
      let g = f.3 in
      ancestors_trans C m.change.deps f.0 n f.1 (earlier d f.0 n cp cn (f.2 ∙ a) (omega arith))

  -- of two changes of one actor, the later one starts above the earlier one's end
  pub later_starts_above : (m n : Member) → Contains C m → Contains C n → m.change.actor ≡ n.change.actor → n.change.seq < m.change.seq → max n.change < m.change.start
  later_starts_above m n cm cn a l =
      starts_after_ancestors C m.change facts.ordered facts.positive (facts.ordered m cm) n (earlier (m.change.seq - n.change.seq - 1) m n cm cn a (omega arith))

-- ---- operations by their place

abbrev pub IsAt : ℕ → List ℕ → List Op → Operation → ℕ → Type 0
IsAt s a ops x i = (i < length ops) × (x ≡ record { id = record { counter = s + i; actor = a }; op = get_or ops i x.op })

pub numbered_at : (s : ℕ) (a : List ℕ) (ops : List Op) (x : Operation) (k : ℕ) → k < length (numbered s a ops) → get_or (numbered s a ops) k x ≡ x → (i : ℕ) × IsAt s a ops x i
numbered_at s a [] x k l e = absurd (omega arith)
numbered_at s a (op ∷ ops) x zero l e = (0, (omega arith, sym e ∙ ap (λ n. record { id = record { counter = n; actor = a }; op = op }) (let z : s ≡ s + 0 = omega arith in z)))
numbered_at s a (op ∷ ops) x (suc k) l e =
    let again : (i : ℕ) × IsAt (s + 1) a ops x i = numbered_at (s + 1) a ops x k (omega arith) e in
    let i = again.0 in
    (suc i, (let b = again.1.0 in omega arith, again.1.1 ∙ ap (λ n. record { id = record { counter = n; actor = a }; op = get_or ops i x.op }) (let z : s + 1 + i ≡ s + suc i = omega arith in z)))

pub operation_of : (C : List Member) (x : Operation) → Contains (all_operations (changes C)) x → (m : Member) × Contains C m × Contains (operations m.change) x
operation_of [] x c = absurd (omega (arith, c.1))
operation_of (m ∷ C) x c =
    let again : Contains (all_operations (changes C)) x → (m : Member) × Contains C m × Contains (operations m.change) x = operation_of C x in
    elim (Contains-append_cases (operations m.change) (all_operations (changes C)) x c) [
      | inl here ↦ (m, (0, omega arith, refl), here)
      | inr there ↦ let f = again there in let place = f.1 in (f.0, (suc place.0, omega arith, place.2), f.2)
    ]

-- two operations of one change with one id
same_place : (s : ℕ) (a : List ℕ) (ops : List Op) (x y : Operation) (i j : ℕ) → IsAt s a ops x i → IsAt s a ops y j → x.id.counter ≡ y.id.counter → x ≡ y
same_place s a ops x y i j p q e =
    let ci : x.id.counter ≡ s + i = ap (λ z. z.id.counter) p.1 in
    let cj : y.id.counter ≡ s + j = ap (λ z. z.id.counter) q.1 in
    let ij : i ≡ j = omega arith in
    let ops_same : get_or ops i x.op ≡ get_or ops j y.op = ap (λ k. get_or ops k x.op) ij ∙ get_or_default ops j x.op y.op q.0 in
    p.1 ∙ (λ t. record { id = record { counter = s + ij t; actor = a }; op = ops_same t }) ∙ sym q.1

-- the changes of two operations with one id are one
pub one_change : (C : List Member) → Facts C → (m n : Member) → Contains C m → Contains C n → (x y : Operation) → Contains (operations m.change) x → Contains (operations n.change) y → x.id ≡ y.id → m ≡ n
one_change C facts m n cm cn x y ox oy e =
    let px = numbered_at m.change.start m.change.actor m.change.ops x ox.0 ox.1 ox.2 in
    let py = numbered_at n.change.start n.change.actor n.change.ops y oy.0 oy.1 oy.2 in
    let actors : m.change.actor ≡ n.change.actor = sym (ap (λ z. z.id.actor) px.1.1) ∙ ap (λ i. i.actor) e ∙ ap (λ z. z.id.actor) py.1.1 in
    let counters : x.id.counter ≡ y.id.counter = ap (λ i. i.counter) e in
    let cix : x.id.counter ≡ m.change.start + px.0 = ap (λ z. z.id.counter) px.1.1 in
    let ciy : y.id.counter ≡ n.change.start + py.0 = ap (λ z. z.id.counter) py.1.1 in
    let lx : px.0 < length m.change.ops = px.1.0 in
    let ly : py.0 < length n.change.ops = py.1.0 in
    elim (cases_order m.change.seq n.change.seq) [
      | inl s ↦ facts.one_seq m n cm cn actors s
      | inr r ↦ elim r [
        | inl l ↦ let up = later_starts_above C facts n m cn cm (sym actors) l in absurd (omega arith)
        | inr l ↦ let up = later_starts_above C facts m n cm cn actors l in absurd (omega arith)
      ]
    ]

-- operations of some members of a set
pub distinct_ids_in : (S C : List Member) → Facts S → ((m : Member) → Contains C m → Contains S m) → OneOperationPerId (all_operations (changes C))
distinct_ids_in S C facts inside x y cx cy e =
    let fx = operation_of C x cx in
    let fy = operation_of C y cy in
    let m = fx.0 in
    let ox = fx.2 in
    let one : m ≡ fy.0 = one_change S facts m fy.0 (inside m fx.1) (inside fy.0 fy.1) x y ox fy.2 e in
    let oy = subst (λ (q : Member). Contains (operations q.change) y) (sym one) fy.2 in
    let px = numbered_at m.change.start m.change.actor m.change.ops x ox.0 ox.1 ox.2 in
    let py = numbered_at m.change.start m.change.actor m.change.ops y oy.0 oy.1 oy.2 in
    same_place m.change.start m.change.actor m.change.ops x y px.0 py.0 px.1 py.1 (ap (λ i. i.counter) e)

pub distinct_ids_of : (C : List Member) → Facts C → OneOperationPerId (all_operations (changes C))
distinct_ids_of C facts = distinct_ids_in C C facts (λ m c. c)

pub distinct_ids : (C : List Member) → JoinInTurn [] C → (x y : Operation) → Contains (all_operations (changes C)) x → Contains (all_operations (changes C)) y → x.id ≡ y.id → x ≡ y
distinct_ids C turn = distinct_ids_of C (listed C turn)
