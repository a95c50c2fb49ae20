-- Ids of one actor that are in order have no gap where the first has the counter from which as many lead to the last.
use Rattle.std.proofs.Common.{ℕ, suc, ◌≡◌, ◌==◌, ◌+◌, ◌-◌, ◌<◌, ◌≤◌, ◌↔◌, List, [], ◌∷◌, length, map, filter, Bool, true, Option, Some, None, option_map, refl, sym, ap, ◌∙◌, inl, inr, arith, Contains, nat_le, nat_lt}
use Rattle.std.specs.List.{dedup, dedup_from, filter_map, cons_option, find, flat_map}
use Rattle.std.specs.List.Sorted.{IsSorted, IsStrictlySortedBy}
use Rattle.std.specs.Option.{option_or}
use Rattle.std.specs.Ordering.{nat_cmp, ordering_then}
use Rattle.std.specs.declared.cmp.Ordering.{Ordering}
use Rattle.std.specs.declared.cmp.Ordering.TheVariants.{Less, Equal, Greater}
use Rattle.std.proofs.lemmas.Bool.{cases_Bool, cases_order, and_parts, eq-eqb, ne_eqb, le-ltb, eqb-true, ltb-true, leb-true}
use Rattle.std.proofs.lemmas.Cmp.{tied_itself, nat_list_cmp_total, nat_cmp_total}
use Rattle.std.proofs.lemmas.Simd.{map-map}
use Rattle.std.proofs.lemmas.List.Elements.{All-contains, All-from_recursion}
use Rattle.std.proofs.lemmas.List.Kept.{IsStrictlySortedBy-filter}
use Rattle.std.proofs.lemmas.Map.Keys.{sorted_head, sorted_tail}
use Rattle.am_types.specs.declared.OpId.{OpId}
use Rattle.am_types.specs.declared.Op.{Op}
use Rattle.am_types.specs.declared.Row.{Row}
use Rattle.am_types.specs.Order.{id_cmp, bytes_cmp}
use Rattle.am_types.specs.Same.{same_id, same_bytes}
use Rattle.am_types.specs.Operations.{Operation, numbered}
use Rattle.am_types.specs.Views.{id_of}
use Rattle.am_types.proofs.Orders.{same_id_itself}
use Rattle.am_laws.proofs.Ancestry.{Contains-from_filter}
use Rattle.am_histories.specs.Rebuilt.{ids, is_within, is_replaced_by, preds_at, op_of, deletion, op_at, ops_within}
use Rattle.am_histories.proofs.Sorted.{Contains-cases, Contains-here, Contains-there}
use Rattle.am_histories.proofs.Contained.{Contains-from_flat_map, any_from}
use Rattle.am_histories.proofs.Tests.{same_bytes-true, find-finds}
use Rattle.am_histories.proofs.Restored.{each_once-sorted, Contains-from_each_once}
use Rattle.am_rebuild.specs.declared.mention.Named.{Named}
use Rattle.am_rebuild.specs.Mentions.{Mention, mention_of, by_author, AreSortedMentions}
use Rattle.am_rebuild.specs.Told.{AreNumbered, starts_at}
use Rattle.am_rebuild.proofs.Whole.{ids_are}

-- ---- ids that climb

-- the ids are of the actor, each has a greater counter than the one before it, and none is above high
abbrev Climbs : List ℕ → ℕ → ℕ → List OpId → Type 0
Climbs actor low high [] = Unit {0}
Climbs actor low high (i ∷ is) = (i.actor ≡ actor) × ((low < i.counter) × ((i.counter ≤ high) × Climbs actor i.counter high is))

counter_below : (x y : OpId) → x.actor ≡ y.actor → id_cmp x y ≡ Less → x.counter < y.counter
counter_below x y a l = elim (cases_order x.counter y.counter) [
  | inl e ↦
      let t : nat_cmp x.counter y.counter ≡ Equal = ap (nat_cmp x.counter) (sym e) ∙ tied_itself nat_cmp_total x.counter in
      let u : bytes_cmp x.actor y.actor ≡ Equal = ap (bytes_cmp x.actor) (sym a) ∙ tied_itself nat_list_cmp_total x.actor in
      absurd (apart_one (id_cmp x y) l (ap (λ o. ordering_then o (bytes_cmp x.actor y.actor)) t ∙ u))
  | inr o ↦ elim o [
    | inl h ↦ h
    | inr h ↦
        let p = le-ltb x.counter y.counter (omega arith) in
        let q = ne_eqb x.counter y.counter (λ e. omega arith) in
        let t : nat_cmp x.counter y.counter ≡ Greater = simp (p, q) refl in
        absurd (apart_other (id_cmp x y) l (ap (λ o. ordering_then o (bytes_cmp x.actor y.actor)) t))
  ]
]
  where
    apart_one : (o : Ordering) → o ≡ Less → o ≡ Equal → ⊥
    apart_one o e f = let d : Less ≡ Equal = sym e ∙ f in cc

    apart_other : (o : Ordering) → o ≡ Less → o ≡ Greater → ⊥
    apart_other o e f = let d : Less ≡ Greater = sym e ∙ f in cc

climbs : (actor : List ℕ) (low high : ℕ) (is : List OpId) → IsStrictlySortedBy id_cmp is → ((i : OpId) → Contains is i → (i.actor ≡ actor) × ((low < i.counter) × (i.counter ≤ high))) → Climbs actor low high is
climbs actor low high [] s h = tt
climbs actor low high (i ∷ is) s h =
    let here = h i (Contains-here i is) in (
      here.0,
      (
        here.1.0,
        (
          here.1.1,
          climbs actor i.counter high is (sorted_tail id_cmp i is s) (λ j c.
              let there = h j (Contains-there i j is c) in (
                there.0,
                (
                  counter_below i j (here.0 ∙ sym there.0) (All-contains (λ k. id_cmp i k ≡ Less) is j (All-from_recursion (λ k. id_cmp i k ≡ Less) is (sorted_head id_cmp i is s)) c),
                  there.1.1,
                ),
              )),
        ),
      ),
    )

room : (actor : List ℕ) (low high : ℕ) (is : List OpId) → low ≤ high → Climbs actor low high is → low + length is ≤ high
room actor low high [] l c = omega arith
room actor low high (i ∷ is) l c =
    let again = room actor i.counter high is c.1.1.0 c.1.1.1 in
    let above = c.1.0 in
    omega arith

abbrev ids_of : List Operation → List OpId
ids_of xs = map (λ (x : Operation). x.id) xs

numbers : (actor : List ℕ) (low high : ℕ) (is : List OpId) (ops : List Op) → Climbs actor low high is → length ops ≡ length is → low + length is ≡ high → is ≡ ids_of (numbered (low + 1) actor ops)
numbers actor low high [] [] c n e = refl
numbers actor low high [] (op ∷ ops) c n e = absurd (omega arith)
numbers actor low high (i ∷ is) [] c n e = absurd (omega arith)
numbers actor low high (i ∷ is) (op ∷ ops) c n e =
    let below = room actor i.counter high is c.1.1.0 c.1.1.1 in
    let above = c.1.0 in
    let one : i.counter ≡ low + 1 = omega arith in
    let again = numbers actor i.counter high is ops c.1.1.1 (omega arith) (omega arith) in
    let rest : is ≡ ids_of (numbered (low + 1 + 1) actor ops) = again ∙ ap (λ k. ids_of (numbered (k + 1) actor ops)) one in
    λ j. record { counter = one j; actor = c.0 j } ∷ rest j

-- ---- each id that rows have or name has an operation

module _ (rows : List Row) where
  op_told : (i : OpId) → Contains (ids rows) i → (op : Op) × (op_at rows i ≡ Some op)
  op_told i c =
      let r = Contains-from_flat_map (λ (r : Row). r.id ∷ r.succs) rows i (Contains-from_each_once _ i c) in
      elim (Contains-cases r.0.id i r.0.succs r.2) [
        | inl e ↦
            let f = find-finds (λ (r : Row). same_id r.id i) rows r.0 r.1 (ap (same_id r.0.id) (sym e) ∙ same_id_itself r.0.id) in
            (op_of (preds_at rows i) f.0, ap (λ o. option_or (option_map (op_of (preds_at rows i)) o) (option_map (deletion (preds_at rows i)) (find (is_replaced_by i) rows))) f.1)
        | inr d ↦
            let f = find-finds (is_replaced_by i) rows r.0 r.1 (any_from (same_id i) r.0.succs i d (same_id_itself i)) in
            either (option_map (op_of (preds_at rows i)) (find (λ (r : Row). same_id r.id i) rows)) (deletion (preds_at rows i) f.0) (option_map (deletion (preds_at rows i)) (find (is_replaced_by i) rows)) (ap (option_map (deletion (preds_at rows i))) f.1)
      ]
    where
      either : (o : Option Op) (op : Op) (p : Option Op) → p ≡ Some op → (q : Op) × (option_or o p ≡ Some q)
      either None op p e = (op, e)
      either (Some q) op p e = (q, refl)

all_found : {X Y : Type 0} (f : X → Option Y) (xs : List X) → ((x : X) → Contains xs x → (y : Y) × (f x ≡ Some y)) → length (filter_map f xs) ≡ length xs
all_found f [] h = refl
all_found f (x ∷ xs) h =
    let here = h x (Contains-here x xs) in
    let rest = all_found f xs (λ y c. h y (Contains-there x y xs c)) in
    ap (λ o. length (cons_option o (filter_map f xs))) here.1 ∙ ap suc rest

-- ---- the first of a list is the first of it without repeats

first_kept : (i : OpId) (is : List OpId) (n : ℕ) → starts_at (dedup_from same_id i is) n ≡ (i.counter == n)
first_kept i [] n = refl
first_kept i (j ∷ is) n =
    let again = first_kept i is n in
    elim (cases_Bool (same_id j i)) [ inl e ↦ simp e again | inr e ↦ simp e refl ]

starts-dedup : (is : List OpId) (n : ℕ) → starts_at (dedup same_id is) n ≡ starts_at is n
starts-dedup [] n = refl
starts-dedup (i ∷ is) n = first_kept i is n

-- ---- the whole

module _ (rows : List Row) (all : List Named) (s : AreSortedMentions rows all) (actor : List ℕ) (low high : ℕ) where
  abbrev within : OpId → Bool
  within = is_within actor low high

  abbrev inner : List OpId
  inner = filter within (ids rows)

  abbrev told : List Op
  told = ops_within rows actor low high

  each_inner : (i : OpId) → Contains inner i → (i.actor ≡ actor) × ((low < i.counter) × (i.counter ≤ high))
  each_inner i c =
      let t = (Contains-from_filter within (ids rows) i c).1 in
      let a = and_parts (same_bytes i.actor actor) _ t in
      let b = and_parts (nat_lt low i.counter) (nat_le i.counter high) a.1 in
      (same_bytes-true i.actor actor a.0, (ltb-true _ _ b.0, leb-true _ _ b.1))

  climb : Climbs actor low high inner
  climb = climbs actor low high inner (IsStrictlySortedBy-filter id_cmp within (ids rows) (each_once-sorted (flat_map (λ (r : Row). r.id ∷ r.succs) rows))) each_inner

  count : length told ≡ length inner
  count = all_found (op_at rows) inner (λ i c. op_told rows i (Contains-from_filter within (ids rows) i c).0)

  forward : (is : List OpId) (ops : List Op) → Climbs actor low high is → length ops ≡ length is → starts_at is (high + 1 - length ops) ≡ true → is ≡ ids_of (numbered (high + 1 - length ops) actor ops)
  forward [] [] c n e = refl
  forward [] (op ∷ ops) c n e = absurd (omega arith)
  forward (i ∷ is) [] c n e = absurd (omega arith)
  forward (i ∷ is) (op ∷ ops) c n e =
      let at = eqb-true i.counter (high + 1 - length (op ∷ ops)) e in
      let below = room actor i.counter high is c.1.1.0 c.1.1.1 in
      let rest = numbers actor i.counter high is ops c.1.1.1 (omega arith) (omega arith) in
      let later : is ≡ ids_of (numbered (high + 1 - length (op ∷ ops) + 1) actor ops) = rest ∙ ap (λ k. ids_of (numbered (k + 1) actor ops)) at in
      λ j. record { counter = at j; actor = c.0 j } ∷ later j

  backward : (n : ℕ) (ops : List Op) → starts_at (ids_of (numbered n actor ops)) n ≡ true
  backward n [] = refl
  backward n (op ∷ ops) = eq-eqb n n refl

  abbrev part : List Named
  part = filter (λ n. within (id_of n.id)) all

  first_is : (n : ℕ) → IsSorted by_author part → starts_at (map (λ (n : Named). id_of n.id) part) n ≡ starts_at inner n
  first_is n up =
      ap (λ l. starts_at l n) (sym (map-map (λ (m : Mention). m.id) mention_of part))
      ∙ sym (starts-dedup (map (λ (m : Mention). m.id) (map mention_of part)) n)
      ∙ ap (λ l. starts_at l n) (ids_are rows all s actor low high up)

  numbered_if : IsSorted by_author part → starts_at (map (λ (n : Named). id_of n.id) part) (high + 1 - length told) ≡ true → AreNumbered rows actor low high
  numbered_if up e = forward inner told climb count (sym (first_is (high + 1 - length told) up) ∙ e)

  starts_if : IsSorted by_author part → AreNumbered rows actor low high → starts_at (map (λ (n : Named). id_of n.id) part) (high + 1 - length told) ≡ true
  starts_if up e = first_is (high + 1 - length told) up ∙ ap (λ l. starts_at l (high + 1 - length told)) e ∙ backward (high + 1 - length told) told

  -- the test on the part tells
  pub told_by : IsSorted by_author part → (cut : List Named) (n : ℕ) (answer : Bool) → cut ≡ part → n ≡ high + 1 - length told → answer ≡ starts_at (map (λ (n : Named). id_of n.id) cut) n → (answer ≡ true) ↔ AreNumbered rows actor low high
  told_by up cut n answer e f g =
      let same : answer ≡ starts_at (map (λ (n : Named). id_of n.id) part) (high + 1 - length told) = g ∙ (λ j. starts_at (map (λ (n : Named). id_of n.id) (e j)) (f j)) in
      (λ t. numbered_if up (sym same ∙ t), λ a. same ∙ starts_if up a)
