-- What holds of a set that is listed with each change fitting those before it.
use Rattle.std.proofs.Common.{◌≡◌, ◌-◌, ◌<◌, ◌≤◌, List, [], ◌∷◌, ◌++◌, Bool, true, false, not, ◌&&◌, nat_lt, None, refl, sym, ap, ◌∙◌, subst, inl, inr, All, Contains, get_or, eq-eqb, arith}
use Rattle.std.specs.List.{list_any}
use Rattle.std.specs.Bool.{then_some}
use Rattle.std.proofs.lemmas.Bool.{both_ways, and_from, and_parts, or_left, or_right, eqb-true, lt-ltb}
use Rattle.std.proofs.lemmas.List.{map-append, append_assoc, append-nil}
use Rattle.std.proofs.lemmas.List.Elements.{All-contains, All-cons, All-nil, All-weaker, Contains-push_cases}
use Rattle.std.proofs.lemmas.List.Folds.{list_any-append, Any-from_list_any}
use Rattle.std.proofs.lemmas.List.Sums.{AllPass-from_list_all}
use Rattle.std.proofs.lemmas.Cmp.{nat_list_eq_equiv}
use Rattle.am_laws.specs.Records.{Hash, SeqClash, SeqGap}
use Rattle.am_types.specs.Order.{hash_cmp, same, among}
use Rattle.am_types.specs.Same.{same_bytes}
use Rattle.am_types.specs.Operations.{max}
use Rattle.am_types.specs.Members.{Member, hashes, holds}
use Rattle.am_types.specs.Ancestors.{ancestors}
use Rattle.am_types.specs.Verdicts.{has_seq}
use Rattle.am_types.specs.ValidSets.{Joins, JoinInTurn}
use Rattle.am_types.proofs.Orders.{same_hash_itself, same_bytes-true}
use Rattle.am_laws.proofs.Growth.{ancestors_stay, found_among}
use Rattle.am_laws.proofs.VerdictLaws.{fits_by}
use Rattle.am_laws.proofs.Counters.{StartsAfter, starts_after_from, find_none, mapped_none}

-- the change before m by its actor is among the ancestors of m
abbrev pub Chained : List Member → Member → Type 0
Chained C m = 1 < m.change.seq → (p : Member) × Contains (ancestors C m.change.deps) p × (p.change.actor ≡ m.change.actor) × (p.change.seq ≡ m.change.seq - 1)

pub record Facts (C : List Member) : Type 0 where
  pub closed : (m : Member) → Contains C m → All (λ h. holds C h ≡ true) m.change.deps
  pub one_hash : (m n : Member) → Contains C m → Contains C n → m.hash ≡ n.hash → m ≡ n
  pub one_seq : (m n : Member) → Contains C m → Contains C n → m.change.actor ≡ n.change.actor → m.change.seq ≡ n.change.seq → m ≡ n
  pub positive : (m : Member) → Contains C m → 1 ≤ m.change.start
  pub seqs : (m : Member) → Contains C m → 1 ≤ m.change.seq
  pub ordered : (m : Member) → Contains C m → StartsAfter C m.change
  pub chained : (m : Member) → Contains C m → Chained C m

no_gap : (a b : Bool) → then_some (a && not b) SeqGap ≡ None → a ≡ true → b ≡ true
no_gap true true e h = refl
no_gap true false e h = cc
no_gap false b e h = absurd (both_ways false refl h)

pub holds_own : (C : List Member) (m : Member) → Contains C m → holds C m.hash ≡ true
holds_own C m c = All-contains (λ m. holds C m.hash ≡ true) C m (all_held C) c
  where
    all_held : (C : List Member) → All (λ m. holds C m.hash ≡ true) C
    all_held [] = All-nil (λ m. holds [] m.hash ≡ true)
    all_held (m ∷ C) = All-cons (λ n. holds (m ∷ C) n.hash ≡ true) m C (or_left _ _ (same_hash_itself m.hash)) (λ k d l. or_right (same hash_cmp (get_or C k d).hash m.hash) _ (all_held C k d l))

holds_more : (C : List Member) (x : Member) (h : Hash) → holds C h ≡ true → holds (C ++ x ∷ []) h ≡ true
holds_more C x h e = ap (list_any (same hash_cmp h)) (map-append (λ (m : Member). m.hash) C (x ∷ [])) ∙ list_any-append (same hash_cmp h) (hashes C) (x.hash ∷ []) ∙ or_left _ _ e

module _ (C : List Member) (x : Member) (facts : Facts C) (joins : Joins C x) where
  deps_held : All (λ h. holds C h ≡ true) x.change.deps
  deps_held = AllPass-from_list_all (holds C) x.change.deps joins.deps

  -- what has the hash of x isn't in C
  apart : {A : Type 0} (h : Hash) → h ≡ x.hash → holds C h ≡ true → A
  apart h e t = absurd (both_ways (holds C x.hash) joins.fresh (subst (λ h. holds C h ≡ true) e t))

  by_cases : (P : Member → Type 0) → ((m : Member) → Contains C m → P m) → P x → (m : Member) → Contains (C ++ x ∷ []) m → P m
  by_cases P f p m c = elim (Contains-push_cases C x m c) [ inl i ↦ f m i | inr e ↦ subst P e p ]

  no_clash : (m : Member) → Contains C m → m.change.actor ≡ x.change.actor → m.change.seq ≡ x.change.seq → ⊥
  no_clash m c a s =
      let none = All-contains (λ m. has_seq x.change.actor x.change.seq m ≡ false) C m (find_none _ C (mapped_none (λ (m : Member). SeqClash m.hash) _ (fits_by C x.change joins.fits).clash)) c in
      both_ways _ none (and_from _ _ (ap (same_bytes m.change.actor) (sym a) ∙ nat_list_eq_equiv.refl m.change.actor) (eq-eqb _ _ s))

  -- the ancestors stay
  stay : (hs : List Hash) → All (λ h. holds C h ≡ true) hs → ancestors (C ++ x ∷ []) hs ≡ ancestors C hs
  stay hs held = ancestors_stay C (x ∷ []) hs facts.closed held (All-cons (λ m. holds C m.hash ≡ false) x [] joins.fresh (All-nil (λ m. holds C m.hash ≡ false)))

  chained_push : (m : Member) → All (λ h. holds C h ≡ true) m.change.deps → Chained C m → Chained (C ++ x ∷ []) m
  chained_push m held f l = let g = f l in (g.0, subst (λ A. Contains A g.0) (sym (stay m.change.deps held)) g.1, g.2, g.3)

  x_chained : Chained C x
  x_chained l =
      let A = ancestors C x.change.deps in
      let p = has_seq x.change.actor (x.change.seq - 1) in
      let found = Any-from_list_any p A (no_gap (nat_lt 1 x.change.seq) (list_any p A) (fits_by C x.change joins.fits).gap (lt-ltb 1 x.change.seq l)) in
      let both = and_parts _ _ found.4 in
      (found.1, (found.0, found.2, found.3), same_bytes-true _ _ both.0, eqb-true _ _ both.1)

  pub facts_push : Facts (C ++ x ∷ [])
  facts_push =
      let more : (hs : List Hash) → All (λ h. holds C h ≡ true) hs → All (λ h. holds (C ++ x ∷ []) h ≡ true) hs = All-weaker (λ h. holds C h ≡ true) (λ h. holds (C ++ x ∷ []) h ≡ true) (holds_more C x) in
      record {
        closed = by_cases (λ m. All (λ h. holds (C ++ x ∷ []) h ≡ true) m.change.deps) (λ m c. more m.change.deps (facts.closed m c)) (more x.change.deps deps_held);
        one_hash = λ m n cm cn. by_cases (λ m. m.hash ≡ n.hash → m ≡ n)
            (λ m cm. by_cases (λ n. m.hash ≡ n.hash → m ≡ n) (λ n cn e. facts.one_hash m n cm cn e) (λ e. apart m.hash e (holds_own C m cm)) n cn)
            (by_cases (λ n. x.hash ≡ n.hash → x ≡ n) (λ n cn e. apart n.hash (sym e) (holds_own C n cn)) (λ e. refl) n cn) m cm;
        one_seq = λ m n cm cn. by_cases (λ m. m.change.actor ≡ n.change.actor → m.change.seq ≡ n.change.seq → m ≡ n)
            (λ m cm. by_cases (λ n. m.change.actor ≡ n.change.actor → m.change.seq ≡ n.change.seq → m ≡ n) (λ n cn a e. facts.one_seq m n cm cn a e) (λ a e. absurd (no_clash m cm a e)) n cn)
            (by_cases (λ n. x.change.actor ≡ n.change.actor → x.change.seq ≡ n.change.seq → x ≡ n) (λ n cn a e. absurd (no_clash n cn (sym a) (sym e))) (λ a e. refl) n cn) m cm;
        positive = by_cases (λ m. 1 ≤ m.change.start) facts.positive joins.fine.numbers.start;
        seqs = by_cases (λ m. 1 ≤ m.change.seq) facts.seqs joins.fine.numbers.seq.0;
        chained = by_cases (λ m. Chained (C ++ x ∷ []) m) (λ m c. chained_push m (facts.closed m c) (facts.chained m c)) (chained_push x deps_held x_chained);
        ordered = by_cases (λ m. StartsAfter (C ++ x ∷ []) m.change)
            (λ m cm. by_cases (λ n. among hash_cmp m.change.deps n.hash ≡ true → max n.change < m.change.start) (facts.ordered m cm)
            (λ d. apart x.hash refl (All-contains (λ h. holds C h ≡ true) m.change.deps x.hash (facts.closed m cm) (found_among m.change.deps x.hash d))))
            (by_cases (λ n. among hash_cmp x.change.deps n.hash ≡ true → max n.change < x.change.start) (starts_after_from C x.change (fits_by C x.change joins.fits).low)
            (λ d. apart x.hash refl (All-contains (λ h. holds C h ≡ true) x.change.deps x.hash deps_held (found_among x.change.deps x.hash d))));
      }

pub no_facts : Facts []
no_facts = record {
  closed = λ m c. absurd (omega (arith, c.1));
  one_hash = λ m n c. absurd (omega (arith, c.1));
  one_seq = λ m n c. absurd (omega (arith, c.1));
  positive = λ m c. absurd (omega (arith, c.1));
  seqs = λ m c. absurd (omega (arith, c.1));
  chained = λ m c. absurd (omega (arith, c.1));
  ordered = λ m c. absurd (omega (arith, c.1));
}

facts_of : (before rest : List Member) → Facts before → JoinInTurn before rest → Facts (before ++ rest)
facts_of before [] f turn = subst Facts (sym (append-nil before)) f
facts_of before (x ∷ rest) f turn = subst Facts (append_assoc before (x ∷ []) rest) (facts_of (before ++ x ∷ []) rest (facts_push before x f turn.0) turn.1)

pub listed : (C : List Member) → JoinInTurn [] C → Facts C
listed C turn = facts_of [] C no_facts turn
