-- A clock covers just the operations of the ancestors, and these hold what they refer to.
use Rattle.std.proofs.Common.{◌≡◌, ◌-◌, ◌≤◌, List, [], ◌∷◌, ◌++◌, filter, Bool, true, false, ◌&&◌, nat_le, refl, sym, ap, ◌∙◌, subst, inl, inr, Contains, arith}
use Rattle.std.proofs.lemmas.Bool.{cases_Bool, cases_order, and_parts, and_from, le-leb, leb-true}
use Rattle.std.proofs.lemmas.Cmp.{nat_list_eq_equiv}
use Rattle.std.proofs.lemmas.List.Elements.{filter-append}
use Rattle.std.proofs.lemmas.List.Folds.{Any-from_list_any, list_any-from_Any}
use Rattle.am_laws.specs.Records.{OpId, Hash, Key, Name, Head, Elem}
use Rattle.am_types.specs.Same.{same_bytes, same_id, same_object}
use Rattle.am_types.specs.Operations.{Operation, operations, all_operations, max}
use Rattle.am_types.specs.Members.{Member, changes}
use Rattle.am_types.specs.Ancestors.{is_named, ancestor_hashes, ancestors}
use Rattle.am_types.specs.References.{element_known}
use Rattle.am_types.proofs.Orders.{same_id-true}
use Rattle.am_laws.proofs.Ancestry.{Contains-filter, Contains-from_filter}
use Rattle.am_types.proofs.Orders.{same_bytes-true}
use Rattle.am_laws.proofs.DistinctIds.{ancestors_trans, earlier, later_starts_above, operation_of}
use Rattle.am_types.specs.Clocks.{covers}
use Rattle.am_laws.proofs.Growth.{same_answers}
use Rattle.am_types.proofs.Lists.{Contains-head, Contains-tail}
use Rattle.am_types.specs.Elements.{HasReference, part, RespectsReferences}
use Rattle.am_laws.proofs.Grounds.{Grounds, Placed, placed, counter_bounds}

pub filter_whole : {X : Type 0} (p : X → Bool) (xs : List X) → ((x : X) → Contains xs x → p x ≡ true) → filter p xs ≡ xs
filter_whole p [] h = refl
filter_whole p (x ∷ xs) h = let here = h x (Contains-head x xs) in simp here (ap (λ l. x ∷ l) (filter_whole p xs (λ y c. h y (Contains-tail x xs y c))))

filter_none : {X : Type 0} (p : X → Bool) (xs : List X) → ((x : X) → Contains xs x → p x ≡ false) → filter p xs ≡ []
filter_none p [] h = refl
filter_none p (x ∷ xs) h = let here = h x (Contains-head x xs) in simp here (filter_none p xs (λ y c. h y (Contains-tail x xs y c)))

-- ---- the clock

module _ (C : List Member) (g : Grounds C) (hs : List Hash) where
  abbrev A : List Member
  A = ancestors C hs

  abbrev named : Member → Bool
  named = is_named (ancestor_hashes C hs)

  pub to_ancestors : (m : Member) → Contains C m → named m ≡ true → Contains (ancestors C hs) m
  unfolding ancestors
  to_ancestors m c t = Contains-filter named C m c t

  pub from_ancestors : (m : Member) → Contains (ancestors C hs) m → Contains C m × (named m ≡ true)
  unfolding ancestors
  from_ancestors m c = Contains-from_filter named C m c

  abbrev ends_above : OpId → Member → Bool
  ends_above id m = same_bytes m.change.actor id.actor && nat_le id.counter (max m.change)

  pub covers_told : (m : Member) → Contains C m → (x : Operation) → Contains (operations m.change) x → covers A x.id ≡ named m
  covers_told m cm x cx =
      let b = counter_bounds m (g.facts.positive m cm) x cx in
      let low = b.0 in
      let high = b.1 in
      same_answers (covers A x.id) (named m)
      (λ t. let a = Any-from_list_any (ends_above x.id) A t in
      let n = a.1 in
      let both = and_parts (same_bytes n.change.actor x.id.actor) (nat_le x.id.counter (max n.change)) a.4 in
      let an : Contains A n = (a.0, a.2, a.3) in
      let cn : Contains C n = (from_ancestors n an).0 in
      let actors : n.change.actor ≡ m.change.actor = same_bytes-true n.change.actor x.id.actor both.0 ∙ b.2 in
      let le : x.id.counter ≤ max n.change = leb-true x.id.counter (max n.change) both.1 in
      let am : Contains A m = elim (cases_order n.change.seq m.change.seq) [
        | inl s ↦ subst (Contains A) (g.facts.one_seq n m cn cm actors s) an
        | inr r ↦ elim r [
          | inl l ↦ let up = later_starts_above C g.facts m n cm cn (sym actors) l in absurd (omega arith)
          | inr l ↦ ancestors_trans C hs n m an (earlier C g.facts (n.change.seq - m.change.seq - 1) n m cn cm actors (omega arith))
        ]
      ] in
      (from_ancestors m am).1)
      (λ t. let am = to_ancestors m cm t in
      list_any-from_Any (ends_above x.id) A (am.0, m, am.1, am.2, and_from _ _ (ap (same_bytes m.change.actor) b.2 ∙ nat_list_eq_equiv.refl m.change.actor) (le-leb x.id.counter (max m.change) high)))

  abbrev S : List Operation
  S = all_operations (changes C)

  part_of : (D : List Member) → ((m : Member) → Contains D m → Contains C m) → all_operations (changes (filter named D)) ≡ part (covers A) (all_operations (changes D))
  part_of [] inside = refl
  part_of (m ∷ D) inside =
      let q : Operation → Bool = λ x. covers A x.id in
      let again : all_operations (changes (filter named D)) ≡ part (covers A) (all_operations (changes D)) = part_of D (λ n c. inside n (Contains-tail m D n c)) in
      let told = covers_told m (inside m (Contains-head m D)) in
      elim (cases_Bool (named m)) [
        | inl t ↦ simp t ((λ i. sym (filter_whole q (operations m.change) (λ x c. told x c ∙ t)) i ++ again i) ∙ sym (filter-append q (operations m.change) (all_operations (changes D))))
        | inr t ↦ simp t ((λ i. sym (filter_none q (operations m.change) (λ x c. told x c ∙ t)) i ++ again i) ∙ sym (filter-append q (operations m.change) (all_operations (changes D))))
      ]

  -- the operations of the ancestors are those that the clock covers
  pub operations_part : all_operations (changes (ancestors C hs)) ≡ part (covers A) S
  unfolding ancestors
  operations_part = part_of C (λ m c. c)

  -- ---- references

  anchored_at : (x : Operation) (p : Placed C x) → covers A x.id ≡ true → HasReference (covers A) x.op.key
  anchored_at x p qx = go x.op.key refl (and_parts _ _ (and_parts _ _ p.before.good).0).1
    where
      m : Member
      m = p.of

      m_named : named m ≡ true
      m_named = sym (covers_told m p.is_member x p.is_own) ∙ qx

      seen_covered : (y : Operation) → Contains p.before.seen y → covers A y.id ≡ true
      seen_covered y c = elim (p.before.from y c).0 [
        | inl k ↦ let o = operation_of (ancestors C m.change.deps) y k in
            let n = o.0 in
            let an = ancestors_trans C hs m n (to_ancestors m p.is_member m_named) o.1 in
            let f = from_ancestors n an in
            covers_told n f.0 y o.2 ∙ f.1
        | inr o ↦ covers_told m p.is_member y o ∙ m_named
      ]

      go : (k : Key) → x.op.key ≡ k → element_known p.before.seen x.op.obj k ≡ true → HasReference (covers A) k
      go Head e t = tt
      go (Name n) e t = tt
      go (Elem r) e t =
          let test : Operation → Bool = λ y. same_id y.id r && y.op.insert && same_object y.op.obj x.op.obj in
          let a = Any-from_list_any test p.before.seen t in
          let y = a.1 in
          let is : y.id ≡ r = same_id-true y.id r (and_parts _ _ (and_parts _ _ a.4).0).0 in
          subst (λ i. covers A i ≡ true) is (seen_covered y (a.0, a.2, a.3))

  pub anchored : RespectsReferences (covers A) S
  anchored x c qx = anchored_at x (placed C g x c) qx
