-- The slots off the old rows and the added operations are those of the larger set.
use Rattle.std.proofs.Common.{ℕ, zero, suc, ◌≡◌, List, [], ◌∷◌, ◌++◌, get_or, map, filter, true, false, refl, sym, ap, ◌∙◌, subst, inl, inr, AllPairs, Contains, arith}
use Rattle.std.specs.Cmp.{IsTotalOrder}
use Rattle.std.specs.List.{flat_map}
use Rattle.std.specs.List.Sorted.{IsStrictlySortedBy}
use Rattle.std.specs.Ordering.{nat_cmp, ordering_then}
use Rattle.std.specs.declared.cmp.Ordering.{Ordering}
use Rattle.std.specs.declared.cmp.Ordering.TheVariants.{Less, Equal}
use Rattle.std.proofs.lemmas.Bool.{cases_Bool, both_ways, and_from}
use Rattle.std.proofs.lemmas.Cmp.{nat_list_cmp_total, tied_itself, eq_by_cmp_equiv}
use Rattle.std.proofs.lemmas.Map.Lookups.{exact_bytes}
use Rattle.std.proofs.lemmas.Map.Views.{tells_apart}
use Rattle.std.proofs.lemmas.List.Elements.{All-from_recursion, All-contains, Contains-append_left, Contains-append_right, Contains-append_cases}
use Rattle.std.proofs.lemmas.List.Kept.{AllPairs-cons, IsStrictlySortedBy-dedup, Contains-dedup}
use Rattle.std.proofs.lemmas.List.Sorted.{Contains-permutation}
use Rattle.am_types.specs.declared.OpId.{OpId}
use Rattle.am_types.specs.declared.ObjId.{ObjId}
use Rattle.am_types.specs.declared.Key.{Key}
use Rattle.am_types.specs.declared.Key.TheVariants.{Name, Head, Elem}
use Rattle.am_types.specs.declared.Row.{Row}
use Rattle.am_types.specs.Order.{bytes_cmp, object_cmp, sorted_by}
use Rattle.am_types.specs.Same.{same_object}
use Rattle.am_types.specs.Operations.{Operation, operation_cmp, ascending, slot}
use Rattle.am_types.specs.Members.{Member}
use Rattle.am_types.specs.ValidSets.{Valid}
use Rattle.am_types.specs.Elements.{elements, insertions, inserts_into}
use Rattle.am_types.specs.Places.{slot_cmp}
use Rattle.am_types.specs.Rows.{rows, kept}
use Rattle.am_laws.proofs.Ancestry.{Contains-from_filter, Contains-filter}
use Rattle.am_laws.proofs.DistinctOperations.{all_pairs_append}
use Rattle.am_laws.proofs.Following.{follow_references}
use Rattle.am_types.proofs.Lists.{all_of, Contains-head, Contains-tail}
use Rattle.am_laws.proofs.References.{fine_op, refers}
use Rattle.am_types.proofs.Rising.{Rises-sorted_by, IsSorted-rises}
use Rattle.am_laws.proofs.SameMembers.{Contains-cons_cases}
use Rattle.am_laws.proofs.ValidSetLaws.{grounds_valid}
use Rattle.am_merge.specs.Laws.{operations_of, MergesRows, ElementsByRows}
use Rattle.am_merge.specs.Plans.{IsBefore, AreSlots}
use Rattle.am_merge.specs.Turns.{grown, id_of_turn}
use Rattle.am_merge.specs.Slots.{each_once, own_rows, objects, name_of, names_in, elements_after, keys_after, slots_after}
use Rattle.am_merge.proofs.Lists.{Contains-map}
use Rattle.am_merge.proofs.Sorts.{Contains-sorted_by, Contains-from_sorted_by}
use Rattle.am_merge.proofs.Places.{object_total, object_exact}
use Rattle.am_merge.proofs.Within.{by_place, stays, row}
use Rattle.am_merge.proofs.StackLaw.{operations_both, is_inserted, walks_elements}
use Rattle.am_merge.proofs.Chains.{once_elements, place_in, InPlace, in_place, chain_is}
use Rattle.am_merge.proofs.PlanRows.{plan_rows}

-- ---- lists

pub Contains-flat_map : {X Y : Type 0} (f : X → List Y) (xs : List X) (x : X) (y : Y) → Contains xs x → Contains (f x) y → Contains (flat_map f xs) y
Contains-flat_map f [] x y c d = absurd (omega (arith, c.1))
Contains-flat_map f (z ∷ xs) x y c d = elim (Contains-cons_cases z xs x c) [
  | inl e ↦ Contains-append_left (f z) (flat_map f xs) y (subst (λ w. Contains (f w) y) (sym e) d)
  | inr t ↦ Contains-append_right (f z) (flat_map f xs) y (Contains-flat_map f xs x y t d)
]

pub from_map : {X Y : Type 0} (f : X → Y) (xs : List X) (y : Y) → Contains (map f xs) y → (x : X) × Contains xs x × (f x ≡ y)
from_map f [] y c = absurd (omega (arith, c.1))
from_map f (x ∷ xs) y (zero, l, e) = (x, Contains-head x xs, e)
from_map f (x ∷ xs) y (suc k, l, e) = let r = from_map f xs y (k, omega arith, e) in (r.0, Contains-tail x xs r.0 r.1, r.2)

pub from_flat_map : {X Y : Type 0} (f : X → List Y) (xs : List X) (y : Y) → Contains (flat_map f xs) y → (x : X) × Contains xs x × Contains (f x) y
from_flat_map f [] y c = absurd (omega (arith, c.1))
from_flat_map f (x ∷ xs) y c = elim (Contains-append_cases (f x) (flat_map f xs) y c) [
  | inl h ↦ (x, Contains-head x xs, h)
  | inr t ↦ let r = from_flat_map f xs y t in (r.0, Contains-tail x xs r.0 r.1, r.2)
]

all_pairs_nil : {X : Type 0} (R : X → X → Type 0) → AllPairs R []
all_pairs_nil R i j d p q = absurd (omega arith)

pub all_pairs_map : {X Y : Type 0} (f : X → Y) (R : Y → Y → Type 0) (xs : List X) → AllPairs (λ x y. R (f x) (f y)) xs → AllPairs R (map f xs)
all_pairs_map f R [] all = all_pairs_nil R
all_pairs_map f R (x ∷ xs) all =
    AllPairs-cons R (f x) (map f xs)
    (all_of (R (f x)) (map f xs) (λ y c. let r = from_map f xs y c in
    let place = r.1 in
    subst (R (f x)) r.2 (subst (λ z. R (f x) (f z)) place.2 (all 0 (suc place.0) r.0 (omega arith) (let l = place.1 in omega arith)))))
    (all_pairs_map f R xs (λ i j d p q. all (suc i) (suc j) d (omega arith) (omega arith)))

module _ {X : Type 0} (cmp : X → X → Ordering) (total : IsTotalOrder cmp) (exact : (x y : X) → cmp x y ≡ Equal → x ≡ y) where
  strict_pairs : (xs : List X) → IsStrictlySortedBy cmp xs → AllPairs (λ x y. cmp x y ≡ Less) xs
  unfolding IsStrictlySortedBy
  strict_pairs [] s = all_pairs_nil (λ x y. cmp x y ≡ Less)
  strict_pairs (x ∷ xs) s = AllPairs-cons (λ x y. cmp x y ≡ Less) x xs (All-from_recursion (λ y. cmp x y ≡ Less) xs s.0) (strict_pairs xs s.1)

  pub once_ascends : (xs : List X) → AllPairs (λ x y. cmp x y ≡ Less) (each_once cmp xs)
  once_ascends xs = strict_pairs (each_once cmp xs) (IsStrictlySortedBy-dedup total (λ x y. refl) (sorted_by cmp xs) (IsSorted-rises total (sorted_by cmp xs) (Rises-sorted_by total xs)))

  pub once_has : (xs : List X) (x : X) → Contains xs x → Contains (each_once cmp xs) x
  once_has xs x c = Contains-dedup (eq_by_cmp_equiv total) (λ a b t. tells_apart exact a b t) (sorted_by cmp xs) x (Contains-sorted_by cmp xs x c)

-- ---- slots ascend

module _ (es : ObjId → List OpId) where
  same_object_before : (o : ObjId) (j k : Key) → slot_cmp (es o) j k ≡ Less → IsBefore es (o, j) (o, k)
  same_object_before o j k e = ap (λ r. ordering_then r (slot_cmp (es o) j k)) (tied_itself object_total o) ∙ e

  elements_ascend : (o : ObjId) (all fs : List OpId) → es o ≡ all → InPlace all fs → AllPairs (λ a b. IsBefore es (o, Elem a) (o, Elem b)) fs
  elements_ascend o all [] e p = all_pairs_nil (λ a b. IsBefore es (o, Elem a) (o, Elem b))
  elements_ascend o all (f ∷ fs) e p =
      AllPairs-cons (λ a b. IsBefore es (o, Elem a) (o, Elem b)) f fs
      (all_of (λ b. IsBefore es (o, Elem f) (o, Elem b)) fs
      (λ g c. same_object_before o (Elem f) (Elem g) (subst (λ l. nat_cmp (place_in l f) (place_in l g) ≡ Less) (sym e) (All-contains (λ g. nat_cmp (place_in all f) (place_in all g) ≡ Less) fs g (All-from_recursion (λ g. nat_cmp (place_in all f) (place_in all g) ≡ Less) fs p.0) c))))
      (elements_ascend o all fs e p.1)

  pub keys_ascend : (o : ObjId) (names : List (List ℕ)) → AllPairs (λ a b. bytes_cmp a b ≡ Less) names → InPlace (es o) (es o) → AllPairs (λ j k. IsBefore es (o, j) (o, k)) (map Name names ++ map Elem (es o))
  keys_ascend o names ascend once =
      all_pairs_append (λ j k. IsBefore es (o, j) (o, k)) (map Name names) (map Elem (es o))
      (all_pairs_map Name (λ j k. IsBefore es (o, j) (o, k)) names (λ i j d p q. same_object_before o (Name (get_or names i d)) (Name (get_or names j d)) (ascend i j d p q)))
      (all_pairs_map Elem (λ j k. IsBefore es (o, j) (o, k)) (es o) (elements_ascend o (es o) (es o) refl once))
      (λ j k cj ck.
      let a = from_map Name names j cj in
      let b = from_map Elem (es o) k ck in
      subst (λ j. IsBefore es (o, j) (o, k)) a.2 (subst (λ k. IsBefore es (o, Name a.0) (o, k)) b.2 (same_object_before o (Name a.0) (Elem b.0) refl)))

  -- object after object
  pub objects_ascend : (keys : ObjId → List Key) → ((o : ObjId) → AllPairs (λ j k. IsBefore es (o, j) (o, k)) (keys o)) → (os : List ObjId) → AllPairs (λ a b. object_cmp a b ≡ Less) os
      → AllPairs (IsBefore es) (flat_map (λ o. map (λ k. (o, k)) (keys o)) os)
  objects_ascend keys within [] ascend = all_pairs_nil (IsBefore es)
  objects_ascend keys within (o ∷ os) ascend =
      all_pairs_append (IsBefore es) (map (λ k. (o, k)) (keys o)) (flat_map (λ o. map (λ k. (o, k)) (keys o)) os)
      (all_pairs_map (λ k. (o, k)) (IsBefore es) (keys o) (within o))
      (objects_ascend keys within os (λ i j d p q. ascend (suc i) (suc j) d (omega arith) (omega arith)))
      (λ s t cs ct.
      let a = from_map (λ k. (o, k)) (keys o) s cs in
      let b = from_flat_map (λ o. map (λ k. (o, k)) (keys o)) os t ct in
      let c = from_map (λ k. (b.0, k)) (keys b.0) t b.2 in
      let place = b.1 in
      let less : object_cmp o b.0 ≡ Less = subst (λ z. object_cmp o z ≡ Less) place.2 (ascend 0 (suc place.0) b.0 (omega arith) (let l = place.1 in omega arith)) in
      subst (λ s. IsBefore es s t) a.2 (subst (λ t. IsBefore es (o, a.0) t) c.2 (ap (λ r. ordering_then r (slot_cmp (es o) a.0 c.0)) less)))

-- ---- the slots of the larger set

module _ (C E : List Member) (v : Valid C) (w : Valid (C ++ E)) where
  abbrev S : List Operation
  S = operations_of C

  abbrev N : List Operation
  N = operations_of E

  abbrev T : List Operation
  T = operations_of (C ++ E)

  abbrev rs : List Row
  rs = rows (operations_of C)

  abbrev all : List Row
  all = rs ++ own_rows N

  elements_are : (o : ObjId) → elements_after N rs o ≡ elements T o
  elements_are o = ap (λ fs. map id_of_turn (grown fs (insertions N o))) (chain_is C v o) ∙ walks_elements C E v w o

  -- a row of an operation that has one
  record Shown (x : Operation) : Type 0 where
    row_of_it : Row
    among : Contains all row_of_it
    obj : row_of_it.obj ≡ x.op.obj
    key : row_of_it.key ≡ x.op.key

  old_shown : (x : Operation) → Contains (kept S) x → Shown x
  unfolding rows
  old_shown x c = record {
    row_of_it = row S x;
    among = Contains-append_left rs (own_rows N) (row S x) (Contains-map (row S) (sorted_by (by_place S) (kept S)) x (Contains-sorted_by (by_place S) (kept S) x c));
    obj = refl;
    key = refl;
  }

  new_shown : (x : Operation) → Contains (kept N) x → Shown x
  new_shown x c = record { row_of_it = row N x; among = Contains-append_right rs (own_rows N) (row N x) (Contains-map (row N) (kept N) x c); obj = refl; key = refl }

  keep : (A : List Operation) (x : Operation) → Contains A x → stays x ≡ true → Contains (kept A) x
  keep A x c t = Contains-filter stays (ascending A) x (Contains-sorted_by operation_cmp A x c) t

  in_whole : (x : Operation) → Contains (kept T) x → Contains T x × (stays x ≡ true)
  in_whole x c = let f = Contains-from_filter stays (ascending T) x c in (Contains-from_sorted_by operation_cmp T x f.0, f.1)

  shown : (x : Operation) → Contains (kept T) x → Shown x
  shown x c =
      let i = in_whole x c in
      elim (Contains-append_cases S N x (subst (λ l. Contains l x) (operations_both C E) i.0)) [
        | inl a ↦ old_shown x (keep S x a i.1)
        | inr b ↦ new_shown x (keep N x b i.1)
      ]

  element_there : (x : Operation) → Contains T x → inserts_into x.op.obj x ≡ true → Contains (elements T x.op.obj) x.id
  element_there x c t =
      Contains-permutation (map (λ (y : Operation). y.id) (insertions T x.op.obj)) (elements T x.op.obj) x.id (follow_references (C ++ E) w x.op.obj).ids
      (Contains-map (λ (y : Operation). y.id) (insertions T x.op.obj) x (is_inserted T x.op.obj x c t))

  same_object_itself : (o : ObjId) → same_object o o ≡ true
  same_object_itself o = rw (tied_itself object_total o) refl

  abbrev keys : ObjId → List Key
  keys = keys_after N rs

  element_key : (o : ObjId) (e : OpId) → Contains (elements T o) e → Contains (keys o) (Elem e)
  element_key o e c =
      Contains-append_right (map Name (names_in o all)) (map Elem (elements_after N rs o)) (Elem e)
      (Contains-map Elem (elements_after N rs o) e (subst (λ l. Contains l e) (sym (elements_are o)) c))

  name_key : (x : Operation) → Contains (kept T) x → (n : List ℕ) → x.op.key ≡ Name n → Contains (keys x.op.obj) (Name n)
  name_key x c n e =
      let s = shown x c in
      let o : ObjId = x.op.obj in
      let here : Contains (filter (λ r. same_object r.obj o) all) s.row_of_it = Contains-filter (λ r. same_object r.obj o) all s.row_of_it s.among (ap (λ p. same_object p o) s.obj ∙ same_object_itself o) in
      let named : Contains (flat_map (λ r. name_of r.key) (filter (λ r. same_object r.obj o) all)) n =
      Contains-flat_map (λ r. name_of r.key) (filter (λ r. same_object r.obj o) all) s.row_of_it n here (subst (λ k. Contains (name_of k) n) (sym (s.key ∙ e)) (Contains-head n [])) in
      Contains-append_left (map Name (names_in o all)) (map Elem (elements_after N rs o)) (Name n)
      (Contains-map Name (names_in o all) n (once_has bytes_cmp nat_list_cmp_total (λ a b t. exact_bytes a b t) (flat_map (λ r. name_of r.key) (filter (λ r. same_object r.obj o) all)) n named))

  slot_key : (x : Operation) → Contains (kept T) x → Contains (keys x.op.obj) (slot x)
  slot_key x c = elim (cases_Bool x.op.insert) [
    | inl t ↦ let is : slot x ≡ Elem x.id = simp t refl in
        subst (Contains (keys x.op.obj)) (sym is) (element_key x.op.obj x.id (element_there x (in_whole x c).0 (and_from x.op.insert (same_object x.op.obj x.op.obj) t (same_object_itself x.op.obj))))
    | inr f ↦ let is : slot x ≡ x.op.key = simp f refl in subst (Contains (keys x.op.obj)) (sym is) (go x.op.key refl f)
  ]
    where
      go : (k : Key) → x.op.key ≡ k → x.op.insert ≡ false → Contains (keys x.op.obj) k
      go (Name n) e f = name_key x c n e
      go Head e f = absurd (both_ways x.op.insert f ((fine_op (C ++ E) (grounds_valid (C ++ E) w) x (in_whole x c).0).head e))
      go (Elem r) e f =
          let z = refers (C ++ E) (grounds_valid (C ++ E) w) x (in_whole x c).0 r e in
          element_key x.op.obj r (subst (Contains (elements T x.op.obj)) z.has_id
          (Contains-permutation (map (λ (y : Operation). y.id) (insertions T x.op.obj)) (elements T x.op.obj) z.insertion.id (follow_references (C ++ E) w x.op.obj).ids
          (Contains-map (λ (y : Operation). y.id) (insertions T x.op.obj) z.insertion (is_inserted T x.op.obj z.insertion z.is_among z.inserts))))

  keys_pairs : (o : ObjId) → AllPairs (λ j k. IsBefore (elements T) (o, j) (o, k)) (keys o)
  keys_pairs o =
      subst (λ fs. AllPairs (λ j k. IsBefore (elements T) (o, j) (o, k)) (map Name (names_in o all) ++ map Elem fs)) (sym (elements_are o))
      (keys_ascend (elements T) o (names_in o all) (once_ascends bytes_cmp nat_list_cmp_total (λ a b t. exact_bytes a b t) (flat_map (λ r. name_of r.key) (filter (λ r. same_object r.obj o) all)))
      (in_place (elements T o) (once_elements (C ++ E) w o)))

  pub slots_are : AreSlots (operations_of (C ++ E)) (slots_after (operations_of E) (rows (operations_of C)))
  slots_are = record {
    ascend = objects_ascend (elements T) keys keys_pairs (objects all) (once_ascends object_cmp object_total object_exact (map (λ (r : Row). r.obj) all));
    all = λ x c. Contains-flat_map (λ o. map (λ k. (o, k)) (keys o)) (objects all) x.op.obj (x.op.obj, slot x)
        (let s = shown x c in
        once_has object_cmp object_total object_exact (map (λ (r : Row). r.obj) all) x.op.obj
        (subst (Contains (map (λ (r : Row). r.obj) all)) s.obj (Contains-map (λ (r : Row). r.obj) all s.row_of_it s.among)))
        (Contains-map (λ k. (x.op.obj, k)) (keys x.op.obj) (slot x) (slot_key x c));
  }

pub merges_rows : MergesRows
merges_rows C E v w = plan_rows C E v w (slots_after (operations_of E) (rows (operations_of C))) (slots_are C E v w)

pub elements_by_rows : ElementsByRows
elements_by_rows C v o = chain_is C v o
