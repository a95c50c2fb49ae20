-- A table beside the authors is a clock.
use Rattle.std.proofs.Common.{ℕ, zero, suc, ◌≡◌, ◌<◌, ◌≤◌, List, [], ◌∷◌, length, get_or, map, filter, Option, Some, None, option_map, refl, sym, ap, ◌∙◌, subst, inl, inr, ◌⊎◌, All, Contains, IsTrue, arith}
use Rattle.std.specs.List.{zip, AllZip}
use Rattle.std.specs.Option.{option_map_or}
use Rattle.std.proofs.lemmas.Bool.{cases_Bool, ltb-true, lt-ltb}
use Rattle.std.proofs.lemmas.Cmp.{nat_list_eq_equiv}
use Rattle.std.proofs.lemmas.List.{get_or_default}
use Rattle.am_types.specs.declared.OpId.{OpId}
use Rattle.am_types.specs.Same.{same_bytes}
use Rattle.am_types.specs.Operations.{max}
use Rattle.am_types.specs.Members.{Member}
use Rattle.am_types.specs.Clocks as members
use Rattle.am_laws.proofs.Ancestry.{Contains-filter, Contains-from_filter}
use Rattle.am_laws.proofs.Growth.{same_answers}
use Rattle.am_types.proofs.Orders.{same_bytes-true}
use Rattle.am_graph.specs.declared.reach.Reach.{Reach}
use Rattle.am_graph.specs.Clocks.{IsClockOf, covers, reach_of}
use Rattle.am_graph.specs.Reaches.{number, end, unreached, reach_at, IsTableOf}
use Rattle.am_graph.proofs.Covering.{Covers, covered, covering}
use Rattle.am_graph.proofs.Depths.{largest_is}
use Rattle.am_graph.proofs.Growing.{number_at}
use Rattle.am_graph.proofs.Naming.{place, place_is}

some_or : {X : Type 0} (o : Option X) → ((x : X) × (o ≡ Some x)) ⊎ (o ≡ None)
some_or None = inr refl
some_or (Some x) = inl (x, refl)

-- a look-up in the clock, by the author's number
pub reach_zip : (authors : List (List ℕ)) (T : List Reach) (x : List ℕ) → reach_of (zip authors T) x ≡ option_map_or (reach_at T) (number authors x) unreached
unfolding place
reach_zip authors T x = go authors T ∙ ap (λ o. option_map_or (reach_at T) o unreached) (sym (place_is (same_bytes x) authors))
  where
    later : (o : Option ℕ) (t : Reach) (T : List Reach) → option_map_or (reach_at T) o unreached ≡ option_map_or (reach_at (t ∷ T)) (option_map suc o) unreached
    later None t T = refl
    later (Some a) t T = refl

    past : (o : Option ℕ) → unreached ≡ option_map_or (reach_at []) o unreached
    past None = refl
    past (Some a) = refl

    go : (authors : List (List ℕ)) (T : List Reach) → reach_of (zip authors T) x ≡ option_map_or (reach_at T) (place (same_bytes x) authors) unreached
    go [] T = refl
    go (y ∷ authors) [] = past (place (same_bytes x) (y ∷ authors))
    go (y ∷ authors) (t ∷ T) =
        let again : reach_of (zip authors T) x ≡ option_map_or (reach_at T) (place (same_bytes x) authors) unreached = go authors T in
        elim (cases_Bool (same_bytes x y)) [
          | inl e ↦ simp e refl
          | inr e ↦ simp e (again ∙ later (place (same_bytes x) authors) t T)
        ]

module _ (authors : List (List ℕ)) (A : List Member) (T : List Reach) (table : IsTableOf authors A T)
    (known : (m : Member) → Contains A m → (a : ℕ) × (number authors m.change.actor ≡ Some a)) (starts : (m : Member) → Contains A m → 1 ≤ m.change.start) where
  at : (x : List ℕ) (a : ℕ) → number authors x ≡ Some a → reach_of (zip authors T) x ≡ reach_at T a
  at x a e = reach_zip authors T x ∙ ap (λ o. option_map_or (reach_at T) o unreached) e

  none : (x : List ℕ) → number authors x ≡ None → reach_of (zip authors T) x ≡ unreached
  none x e = reach_zip authors T x ∙ ap (λ o. option_map_or (reach_at T) o unreached) e

  -- who has the number of an actor is that actor
  same_actor : (x y : List ℕ) (a : ℕ) → number authors x ≡ Some a → number authors y ≡ Some a → y ≡ x
  same_actor x y a e f = let p = number_at authors x a e in let q = number_at authors y a f in q.1 ∙ get_or_default authors a y x q.0 ∙ sym p.1

  covers_only : (i : OpId) → IsTrue (covers (zip authors T) i) → Covers A i
  covers_only i c = elim (some_or (number authors i.actor)) [
    | inl n ↦
        let low : i.counter < (reach_at T n.0).end = subst (λ r. i.counter < r.end) (at i.actor n.0 n.1) (ltb-true i.counter (reach_of (zip authors T) i.actor).end c) in
        elim (table.ends n.0) [
          | inl z ↦ absurd (omega arith)
          | inr g ↦ let e = g.3 in record { by = g.0; is_among = g.1; actor = same_actor i.actor g.0.change.actor n.0 n.1 g.2; reaches = omega arith }
        ]
    | inr n ↦ let low : i.counter < 0 = subst (λ r. i.counter < r.end) (none i.actor n) (ltb-true i.counter (reach_of (zip authors T) i.actor).end c) in absurd (omega arith)
  ]

  covers_all : (i : OpId) → Covers A i → IsTrue (covers (zip authors T) i)
  covers_all i v =
      let n = known v.by v.is_among in
      let num : number authors i.actor ≡ Some n.0 = ap (number authors) (sym v.actor) ∙ n.1 in
      let b = table.reached v.by v.is_among n.0 n.1 in
      let high : end v.by.change ≤ (reach_at T n.0).end = b.1 in
      let start : 1 ≤ v.by.change.start = starts v.by v.is_among in
      let low : i.counter ≤ max v.by.change = v.reaches in
      lt-ltb i.counter (reach_of (zip authors T) i.actor).end (subst (λ r. i.counter < r.end) (sym (at i.actor n.0 num)) (omega arith))

  pub clock_is : IsClockOf A (zip authors T)
  clock_is = record {
    covers = λ i. same_answers (covers (zip authors T) i) (members.covers A i) (λ t. covered A i (covers_only i t)) (λ t. covers_all i (covering A i t));
    last_seq = λ x. sym (largest_is (map (λ m. m.change.seq) (filter (λ m. same_bytes m.change.actor x) A)) (reach_of (zip authors T) x).seq
        (all_mapped (filter (λ m. same_bytes m.change.actor x) A) (reach_of (zip authors T) x).seq (λ m c.
        let is = Contains-from_filter (λ m. same_bytes m.change.actor x) A m c in
        let n = known m is.0 in
        let num : number authors x ≡ Some n.0 = ap (number authors) (sym (same_bytes-true m.change.actor x is.1)) ∙ n.1 in
        let b = (table.reached m is.0 n.0 n.1).0 in
        subst (λ r. m.change.seq ≤ r.seq) (sym (at x n.0 num)) b))
        (elim (some_or (number authors x)) [
          | inl n ↦ elim (table.seqs n.0) [
            | inl z ↦ inl (ap (λ r. r.seq) (at x n.0 n.1) ∙ z)
            | inr g ↦ inr (mapped (filter (λ m. same_bytes m.change.actor x) A) g.0 (reach_of (zip authors T) x).seq
                (Contains-filter (λ m. same_bytes m.change.actor x) A g.0 g.1 (ap (λ y. same_bytes y x) (same_actor x g.0.change.actor n.0 n.1 g.2) ∙ nat_list_eq_equiv.refl x))
                (ap (λ r. r.seq) (at x n.0 n.1) ∙ sym g.3))
          ]
          | inr n ↦ inl (ap (λ r. r.seq) (none x n))
        ]));
  }
    where
      all_mapped : (ms : List Member) (d : ℕ) → ((m : Member) → Contains ms m → m.change.seq ≤ d) → All (λ x. x ≤ d) (map (λ m. m.change.seq) ms)
      all_mapped [] d f k e l = absurd (omega arith)
      all_mapped (m ∷ ms) d f zero e l = f m (0, omega arith, refl)
      all_mapped (m ∷ ms) d f (suc k) e l = all_mapped ms d (λ n c. f n (suc c.0, (let b = c.1 in omega arith), c.2)) k e (omega arith)

      mapped : (ms : List Member) (m : Member) (d : ℕ) → Contains ms m → d ≡ m.change.seq → Contains (map (λ m. m.change.seq) ms) d
      mapped [] m d c e = absurd (omega (arith, c.1))
      mapped (y ∷ ms) m d c e = go (λ c. mapped ms m d c e) c.0 c.1 c.2
        where
          go : (Contains ms m → Contains (map (λ m. m.change.seq) ms) d) → (k : ℕ) → k < length (y ∷ ms) → get_or (y ∷ ms) k m ≡ m → Contains (map (λ m. m.change.seq) (y ∷ ms)) d
          go again zero l s = (0, omega arith, ap (λ q. q.change.seq) s ∙ sym e)
          go again (suc k) l s = let a = again (k, omega arith, s) in (suc a.0, (let b = a.1 in omega arith), a.2)

-- a clone of the authors has their names
pub names_cloned : {V : Type 0} (items : V → List ℕ) (R : V → V → Type 0) → ((v w : V) → R v w → items w ≡ items v) → (ks ls : List V) → AllZip R ks ls → map items ls ≡ map items ks
names_cloned items R same [] [] all = refl
names_cloned items R same [] (l ∷ ls) all = absurd all
names_cloned items R same (k ∷ ks) [] all = absurd all
names_cloned items R same (k ∷ ks) (l ∷ ls) all = λ i. same k l all.0 i ∷ names_cloned items R same ks ls all.1 i
