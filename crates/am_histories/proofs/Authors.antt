-- Of one author's changes, each starts above the max of those before it.
use Rattle.std.proofs.Common.{ℕ, ◌≡◌, ◌-◌, ◌<◌, ◌≤◌, List, [], ◌∷◌, ◌++◌, true, ◌&&◌, refl, sym, ap, ◌∙◌, subst, inl, inr, ◌⊎◌, Contains, arith}
use Rattle.std.specs.List.{list_any}
use Rattle.std.proofs.lemmas.Bool.{cases_Bool, both_ways, and_parts, and_from, and_cases, not-false, eq-eqb, eqb-true, lt-ltb, leb-false, cases_order, cases_eq}
use Rattle.std.proofs.lemmas.List.{append_assoc, append-nil}
use Rattle.std.proofs.lemmas.List.Elements.{All-contains, Contains-append_left, Contains-push, Contains-push_cases, Contains-get_or}
use Rattle.am_types.specs.declared.Hash.{Hash}
use Rattle.am_types.specs.declared.Verdict.TheVariants.{SeqClash, SeqGap, StartLow}
use Rattle.am_types.specs.Order.{hash_cmp, same, among}
use Rattle.am_types.specs.Same.{same_bytes}
use Rattle.am_types.specs.Operations.{max}
use Rattle.am_types.specs.Fine.{Fine}
use Rattle.am_types.specs.Members.{Member, holds, hashes}
use Rattle.am_types.specs.Ancestors.{ancestors, ancestor_hashes, is_named}
use Rattle.am_types.specs.ValidSets.{Joins, JoinInTurn}
use Rattle.am_types.specs.Verdicts.{has_seq}
use Rattle.am_types.specs.Verdicts.{NoReasonApplies}
use Rattle.am_laws.proofs.VerdictLaws.{fits_by}
use Rattle.am_types.proofs.Orders.{same_hash-true, same_hash_itself}
use Rattle.am_laws.proofs.Ancestry.{ancestors_named, ancestors_least, Contains-from_filter}
use Rattle.am_histories.proofs.Sorted.{Contains-cases, Contains-none}
use Rattle.std.specs.Prelude.{nat_le}
use Rattle.am_histories.proofs.Contained.{Contains-map, Contains-from_map, all_passes, any_from}
use Rattle.am_histories.proofs.Tests.{same_bytes-true, same_bytes_itself, unmapped, none_then, find-None, any_has}

-- ---- what joining says

-- the dependencies of a member of a list are held in it
abbrev pub DepsHeld : List Member → Member → Type 0
DepsHeld B n = (h : Hash) → Contains n.change.deps h → holds B h ≡ true

pub has_seq-from : (n : Member) (actor : List ℕ) (seq : ℕ) → n.change.actor ≡ actor → n.change.seq ≡ seq → has_seq actor seq n ≡ true
has_seq-from n actor seq a s = and_from _ _ (ap (λ b. same_bytes b actor) a ∙ same_bytes_itself actor) (eq-eqb n.change.seq seq s)

pub has_seq-true : (n : Member) (actor : List ℕ) (seq : ℕ) → has_seq actor seq n ≡ true → (n.change.actor ≡ actor) × (n.change.seq ≡ seq)
has_seq-true n actor seq e = let p = and_parts _ _ e in (same_bytes-true n.change.actor actor p.0, eqb-true n.change.seq seq p.1)

pub holds-hash : (B : List Member) (n : Member) → Contains B n → holds B n.hash ≡ true
holds-hash B n c = any_from (same hash_cmp n.hash) (hashes B) n.hash (Contains-map (λ (m : Member). m.hash) B n c) (same_hash_itself n.hash)

pub held_member : (B : List Member) (h : Hash) → holds B h ≡ true → (n : Member) × Contains B n × (n.hash ≡ h)
held_member B h e =
    let r = any_has (same hash_cmp h) (hashes B) e in
    let n = Contains-from_map (λ (m : Member). m.hash) B r.0 r.1 in
    (n.0, n.1, n.2 ∙ sym (same_hash-true h r.0 r.2))

pub among-from : (hs : List Hash) (h : Hash) → Contains hs h → among hash_cmp hs h ≡ true
among-from hs h c = any_from (same hash_cmp h) hs h c (same_hash_itself h)

pub among-true : (hs : List Hash) (h : Hash) → among hash_cmp hs h ≡ true → Contains hs h
among-true hs h e = let r = any_has (same hash_cmp h) hs e in subst (Contains hs) (sym (same_hash-true h r.0 r.2)) r.1

module _ (B : List Member) (m : Member) (j : Joins B m) where
  fits : NoReasonApplies B m.change
  fits = fits_by B m.change j.fits

  pub no_clash : (n : Member) → Contains B n → n.change.actor ≡ m.change.actor → n.change.seq ≡ m.change.seq → ⊥
  no_clash n c a s =
      both_ways _ (find-None (has_seq m.change.actor m.change.seq) B (unmapped (λ (m : Member). SeqClash m.hash) _ fits.clash) n c)
      (has_seq-from n m.change.actor m.change.seq a s)

  -- the one before it, among its ancestors
  pub one_before : 1 < m.change.seq → (p : Member) × Contains (ancestors B m.change.deps) p × (p.change.actor ≡ m.change.actor) × (p.change.seq ≡ m.change.seq - 1)
  one_before l =
      let A : List Member = ancestors B m.change.deps in
      let none = none_then _ SeqGap fits.gap in
      let found : list_any (has_seq m.change.actor (m.change.seq - 1)) A ≡ true = elim (and_cases _ _ none) [
        | inl e ↦ absurd (both_ways _ e (lt-ltb 1 m.change.seq l))
        | inr e ↦ not-false _ e
      ] in
      let r = any_has (has_seq m.change.actor (m.change.seq - 1)) A found in
      let t = has_seq-true r.0 m.change.actor (m.change.seq - 1) r.2 in
      (r.0, r.1, t.0, t.1)

  pub deps_held : DepsHeld B m
  deps_held h c = all_passes (holds B) m.change.deps h j.deps c

  pub low_dep : (p : Member) → Contains B p → Contains m.change.deps p.hash → max p.change < m.change.start
  low_dep p c d =
      let A : List Member = ancestors B m.change.deps in
      let low = find-None (λ h. list_any (λ (n : Member). same hash_cmp n.hash h && nat_le m.change.start (max n.change)) A) m.change.deps (unmapped StartLow _ fits.low) p.hash d in
      let there : Contains A p = ancestors_named B m.change.deps p c (among-from m.change.deps p.hash d) in
      elim (cases_Bool (nat_le m.change.start (max p.change))) [
        | inl e ↦ absurd (both_ways _ low (any_from (λ (n : Member). same hash_cmp n.hash p.hash && nat_le m.change.start (max n.change)) A p there (and_from _ _ (same_hash_itself p.hash) e)))
        | inr e ↦ leb-false _ _ e
      ]

-- ---- what holds of a list whose members join in turn

pub record Settled (B : List Member) : Type 0 where
  pub fine : (n : Member) → Contains B n → Fine n.change
  pub closed : (n : Member) → Contains B n → DepsHeld B n
  pub low : (n p : Member) → Contains B n → Contains B p → Contains n.change.deps p.hash → max p.change < n.change.start
  -- each seq below that of a member was used by its author, in a change with lower counters
  pub steps : (n : Member) → Contains B n → (k : ℕ) → 1 ≤ k → k < n.change.seq → (p : Member) × Contains B p × (p.change.actor ≡ n.change.actor) × (p.change.seq ≡ k) × (max p.change < n.change.start)
  pub single : (n p : Member) → Contains B n → Contains B p → n.change.actor ≡ p.change.actor → n.change.seq ≡ p.change.seq → n ≡ p
  pub apart : (n p : Member) → Contains B n → Contains B p → n.hash ≡ p.hash → n ≡ p

module _ (B : List Member) (s : Settled B) (m : Member) (j : Joins B m) where
  -- an ancestor of m has lower counters
  low_ancestor : (p : Member) → Contains (ancestors B m.change.deps) p → max p.change < m.change.start
  unfolding ancestors
  low_ancestor p c =
      let there = Contains-from_filter (is_named (ancestor_hashes B m.change.deps)) B p c in
      all_low p.hash (among-true _ p.hash there.1) p there.0 refl
    where
      Low : Hash → Type 0
      Low h = (n : Member) → Contains B n → n.hash ≡ h → max n.change < m.change.start

      all_low : (h : Hash) → Contains (ancestor_hashes B m.change.deps) h → Low h
      all_low h c = All-contains Low _ h (ancestors_least B Low
          (λ n cn low k d l p cp e.
          let dep : Contains n.change.deps p.hash = subst (Contains n.change.deps) (sym e) (Contains-get_or n.change.deps k d l) in
          let a = s.low n p cn cp dep in
          let b = low n cn refl in
          let f = (s.fine n cn).numbers.start in
          omega arith)
          m.change.deps
          (λ k d l p cp e. low_dep B m j p cp (subst (Contains m.change.deps) (sym e) (Contains-get_or m.change.deps k d l)))) c

  ancestor_held : (p : Member) → Contains (ancestors B m.change.deps) p → Contains B p
  unfolding ancestors
  ancestor_held p c = (Contains-from_filter (is_named (ancestor_hashes B m.change.deps)) B p c).0

  -- each seq below that of m was used
  steps_here : (k : ℕ) → 1 ≤ k → k < m.change.seq → (p : Member) × Contains B p × (p.change.actor ≡ m.change.actor) × (p.change.seq ≡ k) × (max p.change < m.change.start)
  steps_here k low l =
      let r = one_before B m j (omega arith) in
      let there = ancestor_held r.0 r.1 in
      let below = low_ancestor r.0 r.1 in
      elim (cases_eq k (m.change.seq - 1)) [
        | inl e ↦ (r.0, there, r.2, r.3 ∙ sym e, below)
        | inr ne ↦
            let less : k < r.0.change.seq = omega (arith, r.3) in
            let t = s.steps r.0 there k low less in
            let f = (s.fine r.0 there).numbers.start in
            (t.0, t.1, t.2 ∙ r.2, t.3, omega (arith, t.4, f, below))
      ]

  -- the author's earlier changes have lower counters
  pub author_rises : (n : Member) → Contains B n → n.change.actor ≡ m.change.actor → max n.change < m.change.start
  author_rises n c a =
      let one = (s.fine n c).numbers.seq.0 in
      let first = j.fine.numbers.seq.0 in
      elim (cases_order n.change.seq m.change.seq) [
        | inl e ↦ absurd (no_clash B m j n c a e)
        | inr o ↦ elim o [
          | inl l ↦
              let t = steps_here n.change.seq one l in
              let same_one : t.0 ≡ n = s.single t.0 n t.1 c (t.2 ∙ sym a) t.3 in
              subst (λ (x : Member). max x.change < m.change.start) same_one t.4
          | inr l ↦ let t = s.steps n c m.change.seq first l in absurd (no_clash B m j t.0 t.1 (t.2 ∙ a) t.3)
        ]
      ]

  held_more : (h : Hash) → holds B h ≡ true → holds (B ++ m ∷ []) h ≡ true
  held_more h e =
      let r = held_member B h e in
      subst (λ g. holds (B ++ m ∷ []) g ≡ true) r.2 (holds-hash (B ++ m ∷ []) r.0 (Contains-append_left B (m ∷ []) r.0 r.1))

  not_held : (p : Member) → m ≡ p → holds B p.hash ≡ true → ⊥
  not_held p e h = both_ways _ j.fresh (ap (λ (x : Member). holds B x.hash) e ∙ h)

  abbrev More : List Member
  More = B ++ m ∷ []

  cases_of : (n : Member) → Contains More n → Contains B n ⊎ (m ≡ n)
  cases_of n c = Contains-push_cases B m n c

  pub Settled-push : Settled (B ++ m ∷ [])
  Settled-push = record {
    fine = λ n c. elim (cases_of n c) [ inl d ↦ s.fine n d | inr e ↦ subst (λ (x : Member). Fine x.change) e j.fine ];
    closed = λ n c. elim (cases_of n c) [
      | inl d ↦ λ h i. held_more h (s.closed n d h i)
      | inr e ↦ subst (DepsHeld More) e (λ h i. held_more h (deps_held B m j h i))
    ];
    low = λ n p c d i. elim (cases_of p d) [
      | inl dp ↦ elim (cases_of n c) [
        | inl cn ↦ s.low n p cn dp i
        | inr e ↦ subst (λ (x : Member). max p.change < x.change.start) e (low_dep B m j p dp (subst (λ (x : Member). Contains x.change.deps p.hash) (sym e) i))
      ]
      | inr f ↦ absurd (not_held p f (elim (cases_of n c) [
        | inl cn ↦ s.closed n cn p.hash i
        | inr e ↦ deps_held B m j p.hash (subst (λ (x : Member). Contains x.change.deps p.hash) (sym e) i)
      ]))
    ];
    steps = λ n c k low l. elim (cases_of n c) [
      | inl cn ↦ let t = s.steps n cn k low l in (t.0, Contains-append_left B (m ∷ []) t.0 t.1, t.2, t.3, t.4)
      | inr e ↦
          let t = steps_here k low (subst (λ (x : Member). k < x.change.seq) (sym e) l) in
          (t.0, Contains-append_left B (m ∷ []) t.0 t.1, t.2 ∙ ap (λ (x : Member). x.change.actor) e, t.3, subst (λ (x : Member). max t.0.change < x.change.start) e t.4)
    ];
    single = λ n p c d a q. elim (cases_of n c) [
      | inl cn ↦ elim (cases_of p d) [
        | inl dp ↦ s.single n p cn dp a q
        | inr f ↦ absurd (no_clash B m j n cn (a ∙ ap (λ (x : Member). x.change.actor) (sym f)) (q ∙ ap (λ (x : Member). x.change.seq) (sym f)))
      ]
      | inr e ↦ elim (cases_of p d) [
        | inl dp ↦ absurd (no_clash B m j p dp (sym a ∙ ap (λ (x : Member). x.change.actor) (sym e)) (sym q ∙ ap (λ (x : Member). x.change.seq) (sym e)))
        | inr f ↦ sym e ∙ f
      ]
    ];
    apart = λ n p c d h. elim (cases_of n c) [
      | inl cn ↦ elim (cases_of p d) [
        | inl dp ↦ s.apart n p cn dp h
        | inr f ↦ absurd (not_held p f (subst (λ g. holds B g ≡ true) h (holds-hash B n cn)))
      ]
      | inr e ↦ elim (cases_of p d) [
        | inl dp ↦ absurd (not_held n e (subst (λ g. holds B g ≡ true) (sym h) (holds-hash B p dp)))
        | inr f ↦ sym e ∙ f
      ]
    ];
  }

pub Settled-nil : Settled []
Settled-nil = record {
  fine = λ n c. absurd (Contains-none n c);
  closed = λ n c. absurd (Contains-none n c);
  low = λ n p c d i. absurd (Contains-none n c);
  steps = λ n c k low l. absurd (Contains-none n c);
  single = λ n p c d a q. absurd (Contains-none n c);
  apart = λ n p c d h. absurd (Contains-none n c);
}

-- ---- whole listings

-- m's author makes each later change above it
abbrev pub IsBelowLater : Member → List Member → Type 0
IsBelowLater m rest = (n : Member) → Contains rest n → n.change.actor ≡ m.change.actor → max m.change < n.change.start

later : (B : List Member) → Settled B → (rest : List Member) → JoinInTurn B rest → (m : Member) → Contains B m → IsBelowLater m rest
later B s [] t m c n d a = absurd (Contains-none n d)
later B s (x ∷ rest) t m c n d a =
    let again : Contains rest n → max m.change < n.change.start = λ e. later (B ++ x ∷ []) (Settled-push B s x t.0) rest t.1 m (Contains-append_left B (x ∷ []) m c) n e a in
    elim (Contains-cases x n rest d) [
      | inl e ↦ subst (λ (y : Member). max m.change < y.change.start) e (author_rises B s x t.0 m c (sym (ap (λ (y : Member). y.change.actor) e ∙ a)))
      | inr e ↦ again e
    ]

-- what is known at each place of a listing
pub record Standing (before : List Member) (m : Member) (rest : List Member) : Type 0 where
  pub settled : Settled before
  pub joins : Joins before m
  pub below_later : IsBelowLater m rest
  pub above_before : (n : Member) → Contains before n → n.change.actor ≡ m.change.actor → max n.change < m.change.start

pub standing : (B : List Member) → Settled B → (m : Member) (rest : List Member) → JoinInTurn B (m ∷ rest) → Standing B m rest
standing B s m rest t = record {
  settled = s;
  joins = t.0;
  below_later = later (B ++ m ∷ []) (Settled-push B s m t.0) rest t.1 m (Contains-push B m);
  above_before = author_rises B s m t.0;
}

pub Settled-all : (B : List Member) → Settled B → (rest : List Member) → JoinInTurn B rest → Settled (B ++ rest)
Settled-all B s [] t = subst Settled (sym (append-nil B)) s
Settled-all B s (m ∷ rest) t = subst Settled (append_assoc B (m ∷ []) rest) (Settled-all (B ++ m ∷ []) (Settled-push B s m t.0) rest t.1)
