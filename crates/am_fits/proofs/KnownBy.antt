-- A test of the ancestors' operation with some id is answered by the facts of the whole set and by the clock.
use Rattle.std.proofs.Common.{ℕ, zero, suc, ◌≡◌, ◌<◌, List, [], ◌∷◌, ◌++◌, length, get_or, Bool, true, false, ◌&&◌, Option, Some, None, cond, refl, sym, ap, ◌∙◌, subst, inl, inr, Contains, arith}
use Rattle.std.specs.List.{list_any}
use Rattle.std.specs.Option.{option_map_or}
use Rattle.std.proofs.lemmas.Bool.{cases_Bool, both_ways, and_from, and_parts}
use Rattle.std.proofs.lemmas.List.Elements.{Contains-append_left, Contains-append_right}
use Rattle.std.proofs.lemmas.List.Folds.{list_any-from_Any, Any-from_list_any}
use Rattle.am_types.specs.declared.OpId.{OpId}
use Rattle.am_types.specs.declared.Hash.{Hash}
use Rattle.am_types.specs.Same.{same_id}
use Rattle.am_types.specs.Operations.{Operation, operations, all_operations}
use Rattle.am_types.specs.Members.{Member, changes}
use Rattle.am_types.specs.Ancestors.{ancestors}
use Rattle.am_types.proofs.Orders.{same_id-true}
use Rattle.am_laws.proofs.Growth.{same_answers}
use Rattle.am_laws.proofs.Listed.{Facts}
use Rattle.am_types.proofs.Lists.{Contains-head, Contains-tail}
use Rattle.am_laws.proofs.DistinctIds.{distinct_ids_of, operation_of, ancestor_is_member}
use Rattle.am_graph.proofs.Covering.{Covers}
use Rattle.am_graph.proofs.Covered.{covered_is_ancestor, ancestor_is_covered}
use Rattle.am_fits.specs.Facts.{Fact, fact_of, facts, fact_with}

-- what is found with an id is the fact of an operation with it
pub fact_found : (xs : List Operation) (i : OpId) (f : Fact) → fact_with (facts xs) i ≡ Some f → (x : Operation) × Contains xs x × (same_id x.id i ≡ true) × (fact_of x ≡ f)
fact_found [] i f e = absurd (no e)
  where
    no : None ≡ Some f → ⊥
    no g = cc
fact_found (x ∷ xs) i f e =
    let again : fact_with (facts xs) i ≡ Some f → (y : Operation) × Contains xs y × (same_id y.id i ≡ true) × (fact_of y ≡ f) = fact_found xs i f in
    elim (cases_Bool (same_id x.id i)) [
      | inl t ↦ (x, Contains-head x xs, t, inner (sym (ap (λ b. cond b (Some (fact_of x)) (fact_with (facts xs) i)) t) ∙ e))
      | inr t ↦ let a = again (sym (ap (λ b. cond b (Some (fact_of x)) (fact_with (facts xs) i)) t) ∙ e) in (a.0, Contains-tail x xs a.0 a.1, a.2, a.3)
    ]
  where
    inner : Some (fact_of x) ≡ Some f → fact_of x ≡ f
    inner g = cc

-- where an operation has an id, something is found with it
pub fact_some : (xs : List Operation) (i : OpId) (x : Operation) → Contains xs x → same_id x.id i ≡ true → (f : Fact) × (fact_with (facts xs) i ≡ Some f)
fact_some [] i x c t = absurd (omega (arith, c.1))
fact_some (y ∷ xs) i x c t =
    let again : Contains xs x → (f : Fact) × (fact_with (facts xs) i ≡ Some f) = λ c. fact_some xs i x c t in
    elim (cases_Bool (same_id y.id i)) [
      | inl h ↦ (fact_of y, ap (λ b. cond b (Some (fact_of y)) (fact_with (facts xs) i)) h)
      | inr h ↦ let a = go again c.0 c.1 c.2 h in (a.0, ap (λ b. cond b (Some (fact_of y)) (fact_with (facts xs) i)) h ∙ a.1)
    ]
  where
    go : (Contains xs x → (f : Fact) × (fact_with (facts xs) i ≡ Some f)) → (k : ℕ) → k < length (y ∷ xs) → get_or (y ∷ xs) k x ≡ x → same_id y.id i ≡ false → (f : Fact) × (fact_with (facts xs) i ≡ Some f)
    go again zero l e h = absurd (both_ways (same_id y.id i) h (ap (λ (z : Operation). same_id z.id i) e ∙ t))
    go again (suc k) l e h = again (k, omega arith, e)

-- the operations of a member
pub op_among : (A : List Member) (m : Member) (x : Operation) → Contains A m → Contains (operations m.change) x → Contains (all_operations (changes A)) x
op_among [] m x c o = absurd (omega (arith, c.1))
op_among (n ∷ A) m x c o =
    let again : Contains A m → Contains (all_operations (changes A)) x = λ c. op_among A m x c o in
    go again c.0 c.1 c.2
  where
    go : (Contains A m → Contains (all_operations (changes A)) x) → (k : ℕ) → k < length (n ∷ A) → get_or (n ∷ A) k m ≡ m → Contains (operations n.change ++ all_operations (changes A)) x
    go again zero l e = Contains-append_left (operations n.change) _ x (subst (λ (q : Member). Contains (operations q.change) x) (sym e) o)
    go again (suc k) l e = Contains-append_right (operations n.change) _ x (again (k, omega arith, e))

module _ (C : List Member) (is : Facts C) (hs : List Hash) (covers : OpId → Bool)
    (yes : (i : OpId) → covers i ≡ true → Covers (ancestors C hs) i) (no : (i : OpId) → Covers (ancestors C hs) i → covers i ≡ true) where
  abbrev all : List Operation
  all = all_operations (changes C)

  abbrev known : List Operation
  known = all_operations (changes (ancestors C hs))

  abbrev told_of : OpId → Option Fact
  told_of i = cond (covers i) (fact_with (facts all) i) None

  pub known_by : (i : OpId) (p : Fact → Bool) → list_any (λ x. same_id x.id i && p (fact_of x)) known ≡ option_map_or p (told_of i) false
  known_by i p = same_answers (list_any (λ x. same_id x.id i && p (fact_of x)) known) (option_map_or p (told_of i) false) forth back
    where
      forth : list_any (λ x. same_id x.id i && p (fact_of x)) known ≡ true → option_map_or p (told_of i) false ≡ true
      forth t =
          let a = Any-from_list_any (λ x. same_id x.id i && p (fact_of x)) known t in
          let x : Operation = a.1 in
          let parts = and_parts (same_id x.id i) (p (fact_of x)) a.4 in
          let own : x.id ≡ i = same_id-true x.id i parts.0 in
          let m = operation_of (ancestors C hs) x (a.0, a.2, a.3) in
          let cm = ancestor_is_member C hs m.0 m.1 in
          let cx : Contains all x = op_among C m.0 x cm m.2 in
          let f = fact_some all i x cx parts.0 in
          let g = fact_found all i f.0 f.1 in
          let one : g.0 ≡ x = distinct_ids_of C is g.0 x g.1 cx (same_id-true g.0.id i g.2 ∙ sym own) in
          let v : covers i ≡ true = no i (subst (Covers (ancestors C hs)) own (ancestor_is_covered C is hs m.0 x m.1 m.2)) in
          ap (λ b. option_map_or p (cond b (fact_with (facts all) i) None) false) v ∙ ap (λ o. option_map_or p o false) f.1
          ∙ ap p (sym g.3) ∙ ap (λ (z : Operation). p (fact_of z)) one ∙ parts.1

      back : option_map_or p (told_of i) false ≡ true → list_any (λ x. same_id x.id i && p (fact_of x)) known ≡ true
      back t = elim (cases_Bool (covers i)) [
        | inl v ↦ found v (fact_with (facts all) i) refl (sym (ap (λ b. option_map_or p (cond b (fact_with (facts all) i) None) false) v) ∙ t)
        | inr v ↦ absurd (both_ways false refl (sym (ap (λ b. option_map_or p (cond b (fact_with (facts all) i) None) false) v) ∙ t))
      ]
        where
          found : covers i ≡ true → (o : Option Fact) → fact_with (facts all) i ≡ o → option_map_or p o false ≡ true → list_any (λ x. same_id x.id i && p (fact_of x)) known ≡ true
          found v None e q = absurd (both_ways false refl q)
          found v (Some f) e q =
              let g = fact_found all i f e in
              let x : Operation = g.0 in
              let m = operation_of C x g.1 in
              let cov = subst (Covers (ancestors C hs)) (sym (same_id-true x.id i g.2)) (yes i v) in
              let cx = op_among (ancestors C hs) m.0 x (covered_is_ancestor C is hs m.0 x m.1 m.2 cov) m.2 in
              list_any-from_Any (λ x. same_id x.id i && p (fact_of x)) known (cx.0, x, cx.1, cx.2, and_from _ _ g.2 (ap p g.3 ∙ q))
