-- The steps of a walk from heads: V are the places that wait, and T is the table so far.
use Rattle.std.proofs.Common.{ℕ, zero, suc, ◌≡◌, ◌<◌, ◌≤◌, ◌==◌, ◌||◌, List, [], ◌∷◌, length, get_or, max as larger, Bool, true, false, cond, Option, Some, None, refl, sym, ap, ◌∙◌, subst, inl, inr, ◌⊎◌, Contains, arith, eq-eqb}
use Rattle.std.specs.List.{slice_get}
use Rattle.std.specs.Option.{option_map_or}
use Rattle.std.proofs.lemmas.Bool.{cases_Bool, both_ways, cases_order, eqb-true}
use Rattle.std.proofs.lemmas.List.{get_or_default}
use Rattle.std.proofs.lemmas.List.Elements.{Contains-get_or}
use Rattle.am_types.specs.declared.Hash.{Hash}
use Rattle.am_types.specs.Order.{hash_cmp, among}
use Rattle.am_types.specs.Members.{Member}
use Rattle.am_types.specs.Ancestors.{ancestors}
use Rattle.am_laws.proofs.Ancestry.{ancestors_named, ancestors_closed}
use Rattle.am_graph.specs.declared.node.Node.{Node}
use Rattle.am_graph.specs.declared.reach.Reach.{Reach}
use Rattle.am_graph.specs.Graphs.{nodes}
use Rattle.am_graph.specs.Reaches.{number, end, unreached, reach_at, higher, Raised, Merged, IsBelow, Attained, IsTableOf}
use Rattle.am_graph.specs.Walks.{is_place_of, Walk}
use Rattle.am_graph.proofs.Descent.{from_named, from_one, through}

-- ---- tables

either : (x y : ℕ) → (larger x y ≡ x) ⊎ (larger x y ≡ y)
either x y = elim (cases_order x y) [
  | inl e ↦ inl (omega arith)
  | inr r ↦ elim r [ inl l ↦ inr (omega arith) | inr l ↦ inl (omega arith) ]
]

pub attained_larger : (authors : List (List ℕ)) (A : List Member) (f : Member → ℕ) (a x y : ℕ) → Attained authors A f a x → Attained authors A f a y → Attained authors A f a (larger x y)
attained_larger authors A f a x y p q = elim (either x y) [ inl e ↦ subst (Attained authors A f a) (sym e) p | inr e ↦ subst (Attained authors A f a) (sym e) q ]

pub attained_within : (authors : List (List ℕ)) (A B : List Member) → ((m : Member) → Contains A m → Contains B m) → (f : Member → ℕ) (a x : ℕ) → Attained authors A f a x → Attained authors B f a x
attained_within authors A B w f a x t = elim t [ inl z ↦ inl z | inr g ↦ inr (g.0, w g.0 g.1, g.2, g.3) ]

-- what goes at least as far
abbrev pub Rises : List Reach → List Reach → Type 0
Rises T U = (a : ℕ) → ((reach_at T a).seq ≤ (reach_at U a).seq) × ((reach_at T a).end ≤ (reach_at U a).end)

pub below_rises : (authors : List (List ℕ)) (T U : List Reach) (m : Member) → Rises T U → IsBelow authors T m → IsBelow authors U m
below_rises authors T U m r b a e = let p = b a e in let q = r a in (let x = p.0 in let y = q.0 in omega arith, let x = p.1 in let y = q.1 in omega arith)

pub merged_left : (T U S : List Reach) → Merged T U S → Rises T U
merged_left T U S h a = let e = ap (λ r. r.seq) (h a) in let f = ap (λ r. r.end) (h a) in (omega arith, omega arith)

pub merged_right : (T U S : List Reach) → Merged T U S → Rises S U
merged_right T U S h a = let e = ap (λ r. r.seq) (h a) in let f = ap (λ r. r.end) (h a) in (omega arith, omega arith)

raised_here : (T U : List Reach) (b : ℕ) (r : Reach) → Raised T U b r → reach_at U b ≡ higher (reach_at T b) r
raised_here T U b r h = h b ∙ ap (λ q. cond q (higher (reach_at T b) r) (reach_at T b)) (eq-eqb b b refl)

pub raised_rises : (T U : List Reach) (b : ℕ) (r : Reach) → Raised T U b r → Rises T U
raised_rises T U b r h a = elim (cases_Bool (a == b)) [
  | inl e ↦ let s : reach_at U a ≡ higher (reach_at T a) r = h a ∙ ap (λ q. cond q (higher (reach_at T a) r) (reach_at T a)) e in
      let f = ap (λ r. r.seq) s in let g = ap (λ r. r.end) s in (omega arith, omega arith)
  | inr e ↦ let s : reach_at U a ≡ reach_at T a = h a ∙ ap (λ q. cond q (higher (reach_at T a) r) (reach_at T a)) e in
      let f = ap (λ r. r.seq) s in let g = ap (λ r. r.end) s in (omega arith, omega arith)
]

some_same : (a b : ℕ) → Some a ≡ Some b → a ≡ b
some_same a b e = cc

-- how far one change goes
abbrev pub own : Member → Reach
own n = record { seq = n.change.seq; end = end n.change }

pub raised_below : (authors : List (List ℕ)) (T U : List Reach) (b : ℕ) (n : Member) → number authors n.change.actor ≡ Some b → Raised T U b (own n) → IsBelow authors U n
raised_below authors T U b n num h a e =
    let same : b ≡ a = some_same b a (sym num ∙ e) in
    let s : reach_at U a ≡ higher (reach_at T a) (own n) = subst (λ a. reach_at U a ≡ higher (reach_at T a) (own n)) same (raised_here T U b (own n) h) in
    let f = ap (λ r. r.seq) s in let g = ap (λ r. r.end) s in (omega arith, omega arith)

module _ (authors : List (List ℕ)) (A : List Member) (T U : List Reach) (b : ℕ) (n : Member) (cn : Contains A n) (num : number authors n.change.actor ≡ Some b) (h : Raised T U b (own n)) where
  raised_attained : (f : Member → ℕ) (p : Reach → ℕ) → f n ≡ p (own n) → ((r s : Reach) → p (higher r s) ≡ larger (p r) (p s)) → ((a : ℕ) → Attained authors A f a (p (reach_at T a))) → (a : ℕ) → Attained authors A f a (p (reach_at U a))
  raised_attained f p is law old a = elim (cases_Bool (a == b)) [
    | inl e ↦ let s : reach_at U a ≡ higher (reach_at T a) (own n) = h a ∙ ap (λ q. cond q (higher (reach_at T a) (own n)) (reach_at T a)) e in
        let same : a ≡ b = eqb-true a b e in
        subst (Attained authors A f a) (sym (ap p s ∙ law (reach_at T a) (own n)))
        (attained_larger authors A f a (p (reach_at T a)) (p (own n)) (old a) (inr (n, cn, num ∙ ap Some (sym same), is)))
    | inr e ↦ let s : reach_at U a ≡ reach_at T a = h a ∙ ap (λ q. cond q (higher (reach_at T a) (own n)) (reach_at T a)) e in
        subst (Attained authors A f a) (sym (ap p s)) (old a)
  ]

-- ---- places

or_cases : (x y : Bool) → (x || y) ≡ true → (x ≡ true) ⊎ (y ≡ true)
or_cases true y e = inl refl
or_cases false y e = inr e

pub place_names : (C : List Member) (hs : List Hash) (k : ℕ) (d : Member) → k < length C → is_place_of (nodes C) hs k ≡ among hash_cmp hs (get_or C k d).hash
place_names [] hs k d l = absurd (omega arith)
place_names (m ∷ C) hs zero d l = refl
place_names (m ∷ C) hs (suc k) d l = place_names C hs k d (omega arith)

-- ---- the walk

pub walk_ends : (authors : List (List ℕ)) (C : List Member) (hs : List Hash) (V : ℕ → Bool) (T : List Reach) → ((k : ℕ) → V k ≡ false) → Walk authors C hs V T → IsTableOf authors (ancestors C hs) T
walk_ends authors C hs V T none w = record {
  reached = λ m c. elim (w.rest m c) [ inl b ↦ b | inr g ↦ absurd (both_ways (V g.0) (none g.0) g.3) ];
  seqs = w.seqs;
  ends = w.ends;
}

module _ (authors : List (List ℕ)) (C : List Member) (one : (m n : Member) → Contains C m → Contains C n → m.hash ≡ n.hash → m ≡ n) (hs : List Hash) where
  pub walk_starts : (V : ℕ → Bool) (T : List Reach) → ((k : ℕ) → V k ≡ is_place_of (nodes C) hs k) → ((a : ℕ) → reach_at T a ≡ unreached) → Walk authors C hs V T
  walk_starts V T tells blank = record {
    within = λ k d l v. ancestors_named C hs (get_or C k d) (Contains-get_or C k d l) (sym (tells k ∙ place_names C hs k d l) ∙ v);
    rest = λ m c.
        let f = from_named C hs m c in
        let cp = f.1 in
        inr (cp.0, f.0, cp.1, tells cp.0 ∙ place_names C hs cp.0 f.0 cp.1 ∙ ap (λ q. among hash_cmp hs q.hash) cp.2 ∙ f.2, subst (λ q. Contains (ancestors C (q.hash ∷ [])) m) (sym cp.2) f.3);
    seqs = λ a. inl (ap (λ r. r.seq) (blank a));
    ends = λ a. inl (ap (λ r. r.end) (blank a));
  }

  module _ (V W : ℕ → Bool) (T U : List Reach) (walk : Walk authors C hs V T) (i : ℕ) (d : Member) (li : i < length C) (vi : V i ≡ true)
      (fewer : (q : ℕ) → W q ≡ true → V q ≡ true) (split : (q : ℕ) → V q ≡ true → (q ≡ i) ⊎ (W q ≡ true)) where
    abbrev here : Member
    here = get_or C i d

    here_is : Contains C here
    here_is = Contains-get_or C i d li

    here_ancestor : Contains (ancestors C hs) here
    here_ancestor = walk.within i d li vi

    at_here : (k : ℕ) (e : Member) → k < length C → k ≡ i → get_or C k e ≡ here
    at_here k e l s = ap (λ k. get_or C k e) s ∙ get_or_default C i e d li

    -- a table that was kept is taken in
    pub walk_takes : (S : List Reach) → IsTableOf authors (ancestors C (here.hash ∷ [])) S → Merged T U S → Walk authors C hs W U
    walk_takes S table merged = record {
      within = λ k e l w. walk.within k e l (fewer k w);
      rest = λ m c. elim (walk.rest m c) [
        | inl b ↦ inl (below_rises authors T U m (merged_left T U S merged) b)
        | inr g ↦ elim (split g.0 g.3) [
          | inl s ↦ inl (below_rises authors S U m (merged_right T U S merged) (table.reached m (subst (λ q. Contains (ancestors C (q.hash ∷ [])) m) (at_here g.0 g.1 g.2 s) g.4)))
          | inr w ↦ inr (g.0, g.1, g.2, w, g.4)
        ]
      ];
      seqs = λ a. subst (Attained authors (ancestors C hs) (λ m. m.change.seq) a) (sym (ap (λ r. r.seq) (merged a)))
          (attained_larger authors (ancestors C hs) (λ m. m.change.seq) a _ _ (walk.seqs a) (attained_within authors _ _ (through C one hs here here_is here_ancestor) (λ m. m.change.seq) a _ (table.seqs a)));
      ends = λ a. subst (Attained authors (ancestors C hs) (λ m. end m.change) a) (sym (ap (λ r. r.end) (merged a)))
          (attained_larger authors (ancestors C hs) (λ m. end m.change) a _ _ (walk.ends a) (attained_within authors _ _ (through C one hs here here_is here_ancestor) (λ m. end m.change) a _ (table.ends a)));
    }

    -- a change is taken in, and its dependencies wait
    pub walk_visits : (b : ℕ) → number authors here.change.actor ≡ Some b → Raised T U b (own here) → (X : ℕ → Bool) → ((k : ℕ) → X k ≡ (W k || is_place_of (nodes C) here.change.deps k)) → Walk authors C hs X U
    walk_visits b num raised X more = record {
      within = λ k e l x. elim (or_cases (W k) (is_place_of (nodes C) here.change.deps k) (sym (more k) ∙ x)) [
        | inl w ↦ walk.within k e l (fewer k w)
        | inr p ↦ ancestors_closed C hs here (get_or C k e) here_ancestor (sym (place_names C here.change.deps k e l) ∙ p) (Contains-get_or C k e l)
      ];
      rest = λ m c. elim (walk.rest m c) [
        | inl below ↦ inl (below_rises authors T U m (raised_rises T U b (own here) raised) below)
        | inr g ↦ elim (split g.0 g.3) [
          | inl s ↦ elim (from_one C one here here_is m (subst (λ q. Contains (ancestors C (q.hash ∷ [])) m) (at_here g.0 g.1 g.2 s) g.4)) [
            | inl e ↦ inl (subst (IsBelow authors U) (sym e) (raised_below authors T U b here num raised))
            | inr a ↦
                let f = from_named C here.change.deps m a in
                let cp = f.1 in
                let named : is_place_of (nodes C) here.change.deps cp.0 ≡ true = place_names C here.change.deps cp.0 f.0 cp.1 ∙ ap (λ q. among hash_cmp here.change.deps q.hash) cp.2 ∙ f.2 in
                inr (cp.0, f.0, cp.1, more cp.0 ∙ or_yes (W cp.0) _ named, subst (λ q. Contains (ancestors C (q.hash ∷ [])) m) (sym cp.2) f.3)
          ]
          | inr w ↦ inr (g.0, g.1, g.2, more g.0 ∙ ap (λ v. v || is_place_of (nodes C) here.change.deps g.0) w, g.4)
        ]
      ];
      seqs = raised_attained authors (ancestors C hs) T U b here here_ancestor num raised (λ m. m.change.seq) (λ r. r.seq) refl (λ r s. refl) walk.seqs;
      ends = raised_attained authors (ancestors C hs) T U b here here_ancestor num raised (λ m. end m.change) (λ r. r.end) refl (λ r s. refl) walk.ends;
    }
      where
        or_yes : (x y : Bool) → y ≡ true → (x || y) ≡ true
        or_yes true y e = refl
        or_yes false y e = e

-- a table with one more change
-- without heads there is nothing to tell
pub table_of_none : (authors : List (List ℕ)) (C : List Member) → ((m n : Member) → Contains C m → Contains C n → m.hash ≡ n.hash → m ≡ n) → IsTableOf authors (ancestors C []) []
table_of_none authors C one = walk_ends authors C [] (λ k. false) [] (λ k. refl) (walk_starts authors C one [] (λ k. false) [] (λ k. sym (nowhere (slice_get (nodes C) k))) (λ a. refl))
  where
    nowhere : (o : Option (Hash × Node)) → option_map_or (λ e. among hash_cmp [] e.0) o false ≡ false
    nowhere None = refl
    nowhere (Some e) = refl

pub joined_table : (authors : List (List ℕ)) (A : List Member) (T U : List Reach) (b : ℕ) (n : Member) → number authors n.change.actor ≡ Some b → Raised T U b (own n) → IsTableOf authors A T → IsTableOf authors (n ∷ A) U
joined_table authors A T U b n num h t =
    let here : Contains (n ∷ A) n = (0, omega arith, refl) in
    let there : (m : Member) → Contains A m → Contains (n ∷ A) m = λ m c. (suc c.0, (let l = c.1 in omega arith), c.2) in
    record {
      reached = λ m c. at c.0 c.1 c.2;
      seqs = raised_attained authors (n ∷ A) T U b n here num h (λ m. m.change.seq) (λ r. r.seq) refl (λ r s. refl) (λ a. attained_within authors A (n ∷ A) there (λ m. m.change.seq) a _ (t.seqs a));
      ends = raised_attained authors (n ∷ A) T U b n here num h (λ m. end m.change) (λ r. r.end) refl (λ r s. refl) (λ a. attained_within authors A (n ∷ A) there (λ m. end m.change) a _ (t.ends a));
    }
  where
    at : {m : Member} (k : ℕ) → k < length (n ∷ A) → get_or (n ∷ A) k m ≡ m → IsBelow authors U m
    at {m = m} zero l e = subst (IsBelow authors U) e (raised_below authors T U b n num h)
    at {m = m} (suc k) l e = below_rises authors T U m (raised_rises T U b (own n) h) (t.reached m (k, omega arith, e))
