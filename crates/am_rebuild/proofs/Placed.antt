-- Mentions in the order of the places of their actors are in the order of the actors.
use Rattle.std.proofs.Common.{ℕ, get_or, ◌≡◌, ◌+◌, ◌<◌, List, [], ◌∷◌, ◌++◌, length, map, flat_map, filter, Bool, true, false, refl, sym, ap, ◌∙◌, subst, inl, inr, arith, All, Contains, IsPermutation, IsTrue, not, ◌&&◌, nat_le}
use Rattle.std.specs.Cmp.{IsTotalOrder}
use Rattle.std.specs.List.Sorted.{IsSorted, IsStable, IsStrictlySortedBy, IsPartitionPoint, IsPartitionedBy, ties}
use Rattle.std.specs.Ordering.{nat_cmp, is_lt, is_gt, ordering_then, ordering_reverse}
use Rattle.std.specs.declared.cmp.Ordering.{Ordering}
use Rattle.std.specs.declared.cmp.Ordering.TheVariants.{Less, Equal, Greater}
use Rattle.std.proofs.lemmas.Bool.{cases_Bool, cases_order, both_ways, lt-ltb, false_from_ne_true}
use Rattle.std.proofs.lemmas.Cmp.{tied_itself, nat_list_cmp_total, nat_cmp_total, then_total, on_total}
use Rattle.std.specs.Borrow.{Bor}
use Rattle.std.proofs.lemmas.List.{get_or-map, get_or_default, length-map}
use Rattle.std.proofs.lemmas.List.Elements.{All-contains, All-contains_itself, All-push, Contains-append_left, Contains-append_right}
use Rattle.std.proofs.lemmas.List.Sorted.{IsPermutation-sym, Contains-permutation, All-permutation}
use Rattle.std.proofs.lemmas.Map.Keys.{Less-from_sorted, sorted_from_all_adjacent}
use Rattle.std.proofs.lemmas.Map.Lookups.{exact_bytes}
use Rattle.std.proofs.lemmas.Map.Views.{tells_apart}
use Rattle.am_types.specs.declared.OpId.{OpId}
use Rattle.am_types.specs.declared.Row.{Row}
use Rattle.am_types.specs.declared.Meta.{Meta}
use Rattle.am_types.specs.declared.Table.{Table}
use Rattle.am_types.specs.Order.{bytes_cmp, same, among, Ascends}
use Rattle.am_types.specs.Same.{same_bytes}
use Rattle.am_types.specs.Views.{id_of}
use Rattle.am_types.specs.Documents.{object_actors, key_actors}
use Rattle.am_types.proofs.Orders.{same_bytes-true, same_id-true}
use Rattle.am_laws.proofs.Ancestry.{Contains-filter, Contains-from_filter}
use Rattle.am_histories.specs.Laws.{row_actors, table_actors}
use Rattle.am_histories.proofs.Sorted.{Contains-here, Contains-there, Contains-none}
use Rattle.am_histories.proofs.Contained.{Contains-map, Contains-from_map, Contains-flat_map, Contains-from_flat_map}
use Rattle.am_histories.proofs.Tests.{any_has}
use Rattle.am_rebuild.specs.declared.mention.Named.{Named}
use Rattle.am_rebuild.specs.Mentions.{by_author, by_place, author_cmp, spot_of, spot_cmp, IsPlaced, ArePlaced}
use Rattle.am_rebuild.specs.Names.{names_of, mentioned_actors, IsPlaceOf, AreNames}
use Rattle.am_rebuild.proofs.Walked.{filter_none}
use Rattle.am_rebuild.proofs.Whole.{ties_are}

pub spot_total : IsTotalOrder spot_cmp
spot_total = then_total (on_total (λ (p : ℕ × ℕ). p.0) nat_cmp_total) (on_total (λ (p : ℕ × ℕ). p.1) nat_cmp_total)

pub place_total : IsTotalOrder by_place
place_total = then_total (on_total (λ (n : Named). n.place) nat_cmp_total) (on_total (λ (n : Named). n.id.counter) nat_cmp_total)

filter_alike : {X : Type 0} (p q : X → Bool) (xs : List X) → ((x : X) → Contains xs x → p x ≡ q x) → filter p xs ≡ filter q xs
filter_alike p q [] h = refl
filter_alike p q (x ∷ xs) h =
    let here = h x (Contains-here x xs) in
    let again = filter_alike p q xs (λ y c. h y (Contains-there x y xs c)) in
    elim (cases_Bool (q x)) [
      | inl e ↦ let f = here ∙ e in simp (e, f) (ap (λ l. x ∷ l) again)
      | inr e ↦ let f = here ∙ e in simp (e, f) again
    ]

module _ (names : List (List ℕ)) (up : IsStrictlySortedBy bytes_cmp names) where
  places_tell : (i j : ℕ) (d : List ℕ) → i < length names → j < length names → bytes_cmp (get_or names i d) (get_or names j d) ≡ nat_cmp i j
  places_tell i j d a b = elim (cases_order i j) [
    | inl e ↦ ap (λ k. bytes_cmp (get_or names i d) (get_or names k d)) (sym e) ∙ tied_itself nat_list_cmp_total (get_or names i d) ∙ sym (ap (nat_cmp i) (sym e) ∙ tied_itself nat_cmp_total i)
    | inr o ↦ elim o [
      | inl h ↦ Less-from_sorted bytes_cmp names i j d up h b ∙ sym (less i j h)
      | inr h ↦
          nat_list_cmp_total.antisymm (get_or names i d) (get_or names j d) ∙ ap ordering_reverse (Less-from_sorted bytes_cmp names j i d up h a)
          ∙ sym (nat_cmp_total.antisymm i j ∙ ap ordering_reverse (less j i h))
    ]
  ]
    where
      less : (i j : ℕ) → i < j → nat_cmp i j ≡ Less
      less i j h = let t = lt-ltb i j h in simp t refl

  by_place_is : (a b : Named) → IsPlaced names a → IsPlaced names b → by_author a b ≡ by_place a b
  by_place_is a b p q =
      ap (λ o. ordering_then o (nat_cmp a.id.counter b.id.counter))
      ((λ i. bytes_cmp (sym (p.1 []) i) (sym (q.1 []) i)) ∙ places_tell a.place b.place [] p.0 q.0)

  bound_is : (n : Named) (actor : List ℕ) (i counter : ℕ) → IsPlaced names n → IsPlaceOf names actor i → author_cmp (id_of n.id) (record { counter = counter; actor = actor }) ≡ spot_cmp (spot_of n) (i, counter)
  bound_is n actor i counter p q =
      ap (λ o. ordering_then o (nat_cmp n.id.counter counter))
      ((λ j. bytes_cmp (sym (p.1 []) j) (sym (q.1 []) j)) ∙ places_tell n.place i [] p.0 q.0)

  pub sorted_from : (all : List Named) → All (IsPlaced names) all → IsSorted by_place all → IsSorted by_author all
  sorted_from all p s k d z h = ap is_lt (by_place_is (get_or all (k + 1) d) (get_or all k d) (p (k + 1) d h) (p k d (omega arith))) ∙ s k d z h

  abbrev ties_by : (Named → Named → Ordering) → Named → Named → Bool
  ties_by cmp x y = ties (λ a b. is_lt (cmp a b)) x y

  -- mentions of the id of y, which is that of x
  alike : (x y : Named) → IsPlaced names y → id_of x.id ≡ id_of y.id → (l : List Named) → All (IsPlaced names) l → filter (ties_by by_author x) l ≡ filter (ties_by by_place y) l
  alike x y q e l p = filter_alike (ties_by by_author x) (ties_by by_place y) l (λ z c.
      let r = All-contains (IsPlaced names) l z p c in
      ap (λ i. ties (λ a b. is_lt (author_cmp a b)) i (id_of z.id)) e ∙ (λ i. not (is_lt (by_place_is y z q r i)) && not (is_lt (by_place_is z y r q i))))

  pub stable_from : (old new : List Named) → All (IsPlaced names) old → IsPermutation old new → IsStable by_place old new → IsStable by_author old new
  stable_from old new p moved s x = go (filter (ties_by by_author x) old) refl
    where
      go : (l : List Named) → filter (ties_by by_author x) old ≡ l → filter (ties_by by_author x) new ≡ filter (ties_by by_author x) old
      go [] e =
          filter_none (ties_by by_author x) new (λ z c. false_from_ne_true _ (λ t.
          Contains-none z (subst (λ l. Contains l z) e (Contains-filter (ties_by by_author x) old z (Contains-permutation new old z (IsPermutation-sym old new moved) c) t))))
          ∙ sym e
      go (y ∷ l) e =
          let f = Contains-from_filter (ties_by by_author x) old y (subst (λ k. Contains k y) (sym e) (Contains-here y l)) in
          let same_one : id_of x.id ≡ id_of y.id = same_id-true (id_of x.id) (id_of y.id) (sym (ties_are (id_of x.id) (id_of y.id)) ∙ f.1) in
          let q = All-contains (IsPlaced names) old y p f.0 in
          alike x y q same_one new (All-permutation (IsPlaced names) old new moved p) ∙ s y ∙ sym (alike x y q same_one old p)

-- what is above an actor's counter, by the place of the actor
pub above_bound : (names : List (List ℕ)) (all : List Named) → ArePlaced names all → (actor : List ℕ) (i : ℕ) → IsPlaceOf names actor i → (counter r : ℕ)
    → ((k : ℕ) (d : Named) → k < length all → is_gt (spot_cmp (spot_of (get_or all k d)) (i, counter)) ≡ nat_le r k)
    → (k : ℕ) (d : Named) → k < length all → is_gt (author_cmp (id_of (get_or all k d).id) (record { counter = counter; actor = actor })) ≡ nat_le r k
above_bound names all a actor i q counter r f k d l = ap is_gt (bound_is names a.ascend (get_or all k d) actor i counter (a.placed k d l) q) ∙ f k d l

is_less : (o : Ordering) → is_lt o ≡ true → o ≡ Less
is_less Less e = refl
is_less Equal e = absurd (both_ways false refl e)
is_less Greater e = absurd (both_ways false refl e)

-- the first that isn't below an actor of the names is this actor
module _ (q : List (Bor (List ℕ))) (up : IsStrictlySortedBy bytes_cmp (names_of q)) where
  abbrev bytes : Bor (List ℕ) → List ℕ
  bytes n = n.now

  pub place_is : (actor : List ℕ) → Contains (names_of q) actor → (i : ℕ) → IsPartitionPoint (λ (y : Bor (List ℕ)). is_lt (bytes_cmp y.now actor) ≡ true) (λ (y : Bor (List ℕ)). is_lt (bytes_cmp y.now actor) ≡ false) q i → IsPlaceOf (names_of q) actor i
  place_is actor c i p =
      let x = (Contains-from_map bytes q actor c).0 in
      let n = length-map q bytes in
      let j : ℕ = c.0 in
      let within : j < length (names_of q) = c.1 in
      let is : (d : List ℕ) → get_or (names_of q) j d ≡ actor = λ d. get_or_default (names_of q) j d actor within ∙ c.2 in
      elim (cases_order i j) [
        | inl e ↦ (omega arith, λ d. ap (λ k. get_or (names_of q) k d) e ∙ is d)
        | inr o ↦ elim o [
          | inl h ↦
              let here : get_or (names_of q) i actor ≡ (get_or q i x).now = get_or-map bytes q i x actor (omega arith) in
              let less : bytes_cmp (get_or (names_of q) i actor) (get_or (names_of q) j actor) ≡ Less = Less-from_sorted bytes_cmp (names_of q) i j actor up h within in
              let below : is_lt (bytes_cmp (get_or q i x).now actor) ≡ true = ap is_lt ((λ k. bytes_cmp (sym here k) (sym (is actor) k)) ∙ less) in
              absurd (both_ways _ (p.1 i x (omega arith) (omega arith)) below)
          | inr h ↦
              let here : get_or (names_of q) j actor ≡ (get_or q j x).now = get_or-map bytes q j x actor (omega arith) in
              let at_j : is_lt (bytes_cmp (get_or q j x).now actor) ≡ false = ap is_lt (ap (λ b. bytes_cmp b actor) (sym here ∙ is actor) ∙ tied_itself nat_list_cmp_total actor) in
              absurd (both_ways _ at_j (p.0 j x (omega arith) h))
        ]
      ]

  pub partitioned : (actor : List ℕ) → IsPartitionedBy (λ (y : Bor (List ℕ)). is_lt (bytes_cmp y.now actor)) q
  partitioned actor i k d h l t =
      let n = length-map q bytes in
      let at_i : get_or (names_of q) i [] ≡ (get_or q i d).now = get_or-map bytes q i d [] (omega arith) in
      let at_k : get_or (names_of q) k [] ≡ (get_or q k d).now = get_or-map bytes q k d [] (omega arith) in
      elim (cases_order i k) [
        | inl e ↦ subst (λ m. is_lt (bytes_cmp (get_or q m d).now actor) ≡ true) (sym e) t
        | inr o ↦ elim o [
          | inl g ↦
              let less : bytes_cmp (get_or (names_of q) i []) (get_or (names_of q) k []) ≡ Less = Less-from_sorted bytes_cmp (names_of q) i k [] up g (omega arith) in
              let below : bytes_cmp (get_or q i d).now (get_or q k d).now ≡ Less = (λ m. bytes_cmp (sym at_i m) (sym at_k m)) ∙ less in
              ap is_lt (nat_list_cmp_total.trans (get_or q i d).now (get_or q k d).now actor below (is_less (bytes_cmp (get_or q k d).now actor) t))
          | inr g ↦ absurd (omega arith)
        ]
      ]

-- an actor that was found at a place
pub at_place : (q : List (Bor (List ℕ))) (i : ℕ) (x : Bor (List ℕ)) (actor : List ℕ) → i < length q → ((d : Bor (List ℕ)) → x ≡ get_or q i d) → same_bytes x.now actor ≡ true → IsPlaceOf (names_of q) actor i
at_place q i x actor l h e =
    let n = length-map q (λ (b : Bor (List ℕ)). b.now) in
    (omega arith, λ d. get_or-map (λ (b : Bor (List ℕ)). b.now) q i x d l ∙ ap (λ (b : Bor (List ℕ)). b.now) (sym (h x)) ∙ same_bytes-true x.now actor e)

-- ---- one more

pub placed_more : (names : List (List ℕ)) (old new : List Named) (x : Named) → new ≡ old ++ x ∷ [] → IsPlaced names x → All (IsPlaced names) old → All (IsPlaced names) new
placed_more names old new x e q p = subst (All (IsPlaced names)) (sym e) (All-push (IsPlaced names) old x p q)

-- ---- the actors of a table are the names of its rows

pub table_names : (t : Table) → Ascends bytes_cmp t.actors → All (λ a. IsTrue (among bytes_cmp t.actors a)) (table_actors t) → AreNames (mentioned_actors t.rows) t.actors
table_names t ascend known = record {
  sorted = sorted_from_all_adjacent nat_list_cmp_total t.actors [] (λ k l. ascend k [] l);
  named = λ a c.
      let r = Contains-from_flat_map (λ (r : Row). r.id.actor ∷ map (λ (i : OpId). i.actor) r.succs) t.rows a c in
      let in_row = Contains-append_right (object_actors r.0.obj ++ key_actors r.0.key) (r.0.id.actor ∷ map (λ (i : OpId). i.actor) r.0.succs) a r.2 in
      let in_table = Contains-append_right (map (λ m. m.actor) t.metas) (flat_map row_actors t.rows) a (Contains-flat_map row_actors t.rows r.0 a r.1 in_row) in
      let found = any_has (same bytes_cmp a) t.actors (All-contains (λ b. IsTrue (among bytes_cmp t.actors b)) (table_actors t) a known in_table) in
      subst (Contains t.actors) (sym (tells_apart exact_bytes a found.0 found.2)) found.1;
}

pub author_names : (t : Table) → All (λ a. IsTrue (among bytes_cmp t.actors a)) (table_actors t) → All (λ m. Contains t.actors m.actor) t.metas
author_names t known k d l = named (get_or t.metas k d) (All-contains_itself t.metas k d l)
  where
    named : (m : Meta) → Contains t.metas m → Contains t.actors m.actor
    named m c =
        let in_table = Contains-append_left (map (λ (m : Meta). m.actor) t.metas) (flat_map row_actors t.rows) m.actor (Contains-map (λ (m : Meta). m.actor) t.metas m c) in
        let found = any_has (same bytes_cmp m.actor) t.actors (All-contains (λ b. IsTrue (among bytes_cmp t.actors b)) (table_actors t) m.actor known in_table) in
        subst (Contains t.actors) (sym (tells_apart exact_bytes m.actor found.0 found.2)) found.1
