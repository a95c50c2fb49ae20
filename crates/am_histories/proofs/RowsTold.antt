-- The rows of a valid set, in any order, are in document order exactly where each may come where it stands and the walk
-- accepts the insertions into each object.
use Rattle.std.proofs.Common.{◌≡◌, List, [], ◌∷◌, map, filter, Bool, true, false, not, ◌==◌, refl, sym, ap, ◌∙◌, subst, inl, inr, Contains, IsPermutation}
use Rattle.std.specs.Cmp.{IsTotalOrder}
use Rattle.std.specs.List.{IsDistinct}
use Rattle.std.specs.Ordering.{on, ordering_then}
use Rattle.std.specs.declared.cmp.Ordering.{Ordering}
use Rattle.std.specs.declared.cmp.Ordering.TheVariants.{Less, Equal, Greater}
use Rattle.std.proofs.lemmas.Bool.{cases_Bool, both_ways, and_parts, not_from_false, ne_eqb}
use Rattle.std.proofs.lemmas.Cmp.{on_total}
use Rattle.std.proofs.lemmas.List.Elements.{All-contains, All-from_recursion}
use Rattle.std.proofs.lemmas.List.Sorted.{IsPermutation-sym, IsPermutation-trans, IsPermutation-map, Contains-permutation}
use Rattle.std.proofs.lemmas.Map.Keys.{IsDistinct-head, IsDistinct-tail, IsDistinct-IsPermutation}
use Rattle.am_types.specs.Actions as actions
use Rattle.am_types.specs.declared.OpId.{OpId}
use Rattle.am_types.specs.declared.ObjId.{ObjId}
use Rattle.am_types.specs.declared.Key.TheVariants.{Head, Elem}
use Rattle.am_types.specs.declared.Row.{Row}
use Rattle.am_types.specs.Order.{id_cmp, sorted_by}
use Rattle.am_types.specs.Same.{same_id, same_object}
use Rattle.am_types.specs.Operations.{Operation, all_operations, operation_cmp, ascending, slot}
use Rattle.am_types.specs.Fine.{FineOp}
use Rattle.am_types.specs.Members.{Member, changes}
use Rattle.am_types.specs.ValidSets.{Valid}
use Rattle.am_types.specs.Elements.{inserts_into, insertions, elements}
use Rattle.am_laws.specs.Laws.{IsReference}
use Rattle.am_types.specs.Places.{place_cmp}
use Rattle.am_types.specs.Rows.{succs, row_of, kept, operation_place, rows}
use Rattle.am_laws.proofs.Ancestry.{Contains-filter, Contains-from_filter}
use Rattle.am_laws.proofs.DistinctOperations.{distinct_ids_valid}
use Rattle.am_laws.proofs.Following.{follow_references}
use Rattle.am_types.proofs.Lists.{all_of}
use Rattle.am_types.proofs.Orders.{id_exact, same_id_itself}
use Rattle.am_types.proofs.Permuted.{operation_total}
use Rattle.am_types.proofs.Permutations.{IsPermutation-filter}
use Rattle.am_laws.proofs.References.{fine_op, refers}
use Rattle.am_types.proofs.Rising.{Rises, AboveNone, Rises-sorted_by, filter-sorted_by, sorted_by-rising}
use Rattle.am_laws.proofs.SameMembers.{NoRepeat}
use Rattle.am_types.proofs.Sorting.{IsPermutation-sorted_by, sorted_by-permutation}
use Rattle.am_laws.proofs.ValidSetLaws.{grounds_valid}
use Rattle.am_histories.specs.Rebuilt.{slot_of}
use Rattle.am_histories.specs.Walks.{Insertion, insertion_of}
use Rattle.am_histories.specs.RowOrder.{row_insertion, is_insertion_into, row_insertions, RowsInOrder}
use Rattle.am_histories.specs.Laws.{RowOrderIsTold}
use Rattle.am_histories.proofs.Sorted.{Contains-cases, Contains-here, Contains-there, Contains-none}
use Rattle.am_histories.proofs.Contained.{Contains-map, Contains-from_map}
use Rattle.am_histories.proofs.Restored.{Contains-sorted_by, Contains-from_sorted_by}
use Rattle.am_histories.proofs.Tests.{same_object-true}
use Rattle.am_histories.proofs.ElementWalk.{flips, kept_distinct, walk_tells_order}
use Rattle.am_histories.proofs.KnownRows.{ids_of, ApartRows, Opened, Known, row_cmp, row_total, slot-inserts, slot-not, same_elem}
use Rattle.am_histories.proofs.RowsCome.{in_order_rising}
use Rattle.am_histories.proofs.RowsRise.{rises_in_order}

-- ---- ids that differ

abbrev row_ids : List Row → List OpId
row_ids t = map (λ (r : Row). r.id) t

differs_from : (i : OpId) (is : List OpId) (j : OpId) → IsDistinct same_id (i ∷ is) → Contains is j → i ≡ j → ⊥
differs_from i is j d c e =
    both_ways (same_id i j)
    (All-contains (λ j. same_id i j ≡ false) is j (All-from_recursion (λ j. same_id i j ≡ false) is (IsDistinct-head same_id i is d)) c)
    (subst (λ j. same_id i j ≡ true) e (same_id_itself i))

pub apart_rows : (t : List Row) → IsDistinct same_id (row_ids t) → ApartRows t
apart_rows [] d = tt
apart_rows (r ∷ t) d = (
  λ y c e. differs_from r.id (row_ids t) y.id d (Contains-map (λ (r : Row). r.id) t y c) e,
  apart_rows t (IsDistinct-tail same_id r.id (row_ids t) d),
)

pub apart_one : (t : List Row) → ApartRows t → (x y : Row) → Contains t x → Contains t y → x.id ≡ y.id → x ≡ y
apart_one [] a x y c d e = absurd (Contains-none x c)
apart_one (z ∷ t) a x y c d e =
    let again : Contains t x → Contains t y → x ≡ y = λ f g. apart_one t a.1 x y f g e in
    elim (Contains-cases z x t c) [
      | inl f ↦ elim (Contains-cases z y t d) [
        | inl g ↦ sym f ∙ g
        | inr g ↦ absurd (a.0 y g (ap (λ (w : Row). w.id) f ∙ e))
      ]
      | inr f ↦ elim (Contains-cases z y t d) [
        | inl g ↦ absurd (a.0 x f (ap (λ (w : Row). w.id) g ∙ sym e))
        | inr g ↦ again f g
      ]
    ]

pub no_repeat_ids : (is : List OpId) → IsDistinct same_id is → NoRepeat is
no_repeat_ids [] d = tt
no_repeat_ids (i ∷ is) d = (λ c. differs_from i is i d c refl, no_repeat_ids is (IsDistinct-tail same_id i is d))

-- ---- images

module _ {X Y : Type 0} (f : X → Y) where
  module _ {R : Y → Y → Ordering} (total : IsTotalOrder R) where
    above_map : (x : X) (ys : List X) → AboveNone (on_total f total) x ys → AboveNone total (f x) (map f ys)
    above_map x [] a = tt
    above_map x (y ∷ ys) a = (a.0, above_map x ys a.1)

    rises_map : (xs : List X) → Rises (on_total f total) xs → Rises total (map f xs)
    rises_map [] r = tt
    rises_map (x ∷ xs) r = (above_map x xs r.0, rises_map xs r.1)

  filter_map : (p : Y → Bool) (xs : List X) → filter p (map f xs) ≡ map f (filter (λ x. p (f x)) xs)
  filter_map p [] = refl
  filter_map p (x ∷ xs) =
      let again = filter_map p xs in
      elim (cases_Bool (p (f x))) [ inl e ↦ simp e (ap (λ l. f x ∷ l) again) | inr e ↦ simp e again ]

map_map : {X Y Z : Type 0} (g : Y → Z) (f : X → Y) (xs : List X) → map g (map f xs) ≡ map (λ x. g (f x)) xs
map_map g f [] = refl
map_map g f (x ∷ xs) = ap (λ l. g (f x) ∷ l) (map_map g f xs)

-- what passes p passes q
filter_twice : {X : Type 0} (p q : X → Bool) (xs : List X) → ((x : X) → Contains xs x → p x ≡ true → q x ≡ true) → filter p (filter q xs) ≡ filter p xs
filter_twice p q [] h = refl
filter_twice p q (x ∷ xs) h =
    let again = filter_twice p q xs (λ y c. h y (Contains-there x y xs c)) in
    elim (cases_Bool (q x)) [
      | inl e ↦ elim (cases_Bool (p x)) [ inl d ↦ simp (e, d) (ap (λ l. x ∷ l) again) | inr d ↦ simp (e, d) again ]
      | inr e ↦ elim (cases_Bool (p x)) [
        | inl d ↦ absurd (both_ways (q x) e (h x (Contains-here x xs) d))
        | inr d ↦ simp (e, d) again
      ]
    ]

-- ---- a valid set

module _ (C : List Member) (v : Valid C) where
  abbrev A : List Operation
  A = all_operations (changes C)

  abbrev pub row : Operation → Row
  row x = row_of (succs A x.id) x

  abbrev is_kept : Operation → Bool
  is_kept x = not (x.op.action == actions.del)

  abbrev cmp : Operation → Operation → Ordering
  cmp = on operation_place (place_cmp (elements A))

  abbrev pub S : List Operation
  S = sorted_by cmp (kept A)

  total : IsTotalOrder (row_cmp (elements A))
  total = row_total (elements A)

  fine : (x : Operation) → Contains A x → FineOp x.op
  fine x c = fine_op C (grounds_valid C v) x c

  pub kept_is : (x : Operation) → Contains S x → Contains A x × (is_kept x ≡ true)
  kept_is x c =
      let f = Contains-from_filter is_kept (ascending A) x (Contains-from_sorted_by cmp (kept A) x c) in
      (Contains-from_sorted_by operation_cmp A x f.0, f.1)

  pub is_in : (x : Operation) → Contains A x → is_kept x ≡ true → Contains S x
  is_in x c e = Contains-sorted_by cmp (kept A) x (Contains-filter is_kept (ascending A) x (Contains-sorted_by operation_cmp A x c) e)

  inserted_kept : (x : Operation) → Contains A x → x.op.insert ≡ true → is_kept x ≡ true
  inserted_kept x c e = not_from_false _ (ne_eqb x.op.action actions.del ((fine x c).insertion e).action.0)

  rows_rise : Rises total (map row S)
  rows_rise = rises_map row total S (Rises-sorted_by (on_total row total) (kept A))

  pub distinct : IsDistinct same_id (row_ids (map row S))
  distinct =
      let ids = λ (l : List Operation). map (λ (x : Operation). x.id) l in
      let F : List Operation = filter is_kept A in
      let moved : IsPermutation F S = IsPermutation-trans F (kept A) S
      (subst (IsPermutation F) (sym (filter-sorted_by operation_total is_kept A)) (IsPermutation-sorted_by operation_cmp F))
      (IsPermutation-sorted_by cmp (kept A)) in
      subst (IsDistinct same_id) (sym (map_map (λ (r : Row). r.id) row S))
      (IsDistinct-IsPermutation same_id flips (ids F) (ids S) (IsPermutation-map (λ (x : Operation). x.id) F S moved) (kept_distinct is_kept A (distinct_ids_valid C v)))

  -- the insertions into an object
  insertions_moved : (o : ObjId) → IsPermutation (map insertion_of (insertions A o)) (row_insertions o (map row S))
  insertions_moved o =
      let all : filter (inserts_into o) (kept A) ≡ insertions A o = filter_twice (inserts_into o) is_kept (ascending A)
      (λ x c e. inserted_kept x (Contains-from_sorted_by operation_cmp A x c) (and_parts x.op.insert (same_object x.op.obj o) e).0) in
      let moved : IsPermutation (insertions A o) (filter (inserts_into o) S) = subst (λ l. IsPermutation l (filter (inserts_into o) S)) all
      (IsPermutation-filter (inserts_into o) (kept A) S (IsPermutation-sorted_by cmp (kept A))) in
      let is : row_insertions o (map row S) ≡ map insertion_of (filter (inserts_into o) S) =
      ap (map row_insertion) (filter_map row (is_insertion_into o) S) ∙ map_map row_insertion row (filter (inserts_into o) S) in
      subst (IsPermutation (map insertion_of (insertions A o))) (sym is) (IsPermutation-map insertion_of (insertions A o) (filter (inserts_into o) S) moved)

  module _ (t : List Row) (p : IsPermutation (map row S) t) where
    from_t : (r : Row) → Contains t r → (x : Operation) × Contains S x × (row x ≡ r)
    from_t r c = Contains-from_map row S r (Contains-permutation t (map row S) r (IsPermutation-sym (map row S) t p) c)

    in_t : (x : Operation) → Contains A x → is_kept x ≡ true → Contains t (row x)
    in_t x c e = Contains-permutation (map row S) t (row x) p (Contains-map row S x (is_in x c e))

    apart : ApartRows t
    apart = apart_rows t (IsDistinct-IsPermutation same_id flips (row_ids (map row S)) (row_ids t) (IsPermutation-map (λ (r : Row). r.id) (map row S) t p) distinct)

    moved : (o : ObjId) → IsPermutation (map insertion_of (insertions A o)) (row_insertions o t)
    moved o =
        IsPermutation-trans (map insertion_of (insertions A o)) (row_insertions o (map row S)) (row_insertions o t) (insertions_moved o)
        (IsPermutation-map row_insertion (filter (is_insertion_into o) (map row S)) (filter (is_insertion_into o) t) (IsPermutation-filter (is_insertion_into o) (map row S) t p))

    elements_moved : (o : ObjId) → IsPermutation (ids_of (row_insertions o t)) (elements A o)
    elements_moved o =
        let ids : List OpId = map (λ (x : Operation). x.id) (insertions A o) in
        let same : ids_of (map insertion_of (insertions A o)) ≡ ids = map_map (λ (x : Insertion). x.id) insertion_of (insertions A o) in
        let back : IsPermutation (ids_of (map insertion_of (insertions A o))) (ids_of (row_insertions o t)) =
        IsPermutation-map (λ (x : Insertion). x.id) (map insertion_of (insertions A o)) (row_insertions o t) (moved o) in
        IsPermutation-trans (ids_of (row_insertions o t)) ids (elements A o)
        (IsPermutation-sym ids (ids_of (row_insertions o t)) (subst (λ l. IsPermutation l (ids_of (row_insertions o t))) same back))
        (follow_references C v o).ids

    once : (o : ObjId) → NoRepeat (elements A o)
    once o =
        let F : List Operation = filter (inserts_into o) A in
        let ids = λ (l : List Operation). map (λ (x : Operation). x.id) l in
        let sorted : IsPermutation F (insertions A o) = subst (IsPermutation F) (sym (filter-sorted_by operation_total (inserts_into o) A)) (IsPermutation-sorted_by operation_cmp F) in
        no_repeat_ids (elements A o) (IsDistinct-IsPermutation same_id flips (ids F) (elements A o)
        (IsPermutation-trans (ids F) (ids (insertions A o)) (elements A o) (IsPermutation-map (λ (x : Operation). x.id) F (insertions A o) sorted) (follow_references C v o).ids)
        (kept_distinct (inserts_into o) A (distinct_ids_valid C v)))

    opened_op : (x : Operation) → Contains S x → (e : OpId) → slot x ≡ Elem e → Opened t (row x) e
    opened_op x c e s =
        let k = kept_is x c in
        elim (cases_Bool x.op.insert) [
          | inl i ↦ record {
            by = row x;
            is_among = in_t x k.0 k.1;
            inserts = i;
            object = refl;
            has_id = same_elem x.id e (sym (slot-inserts (row x) i) ∙ s);
            first = inl refl;
          }
          | inr i ↦
              let r : IsReference A x e = refers C (grounds_valid C v) x k.0 e (sym (slot-not (row x) i) ∙ s) in
              let y = r.insertion in
              let q = and_parts y.op.insert (same_object y.op.obj x.op.obj) r.inserts in
              record {
                by = row y;
                is_among = in_t y r.is_among (inserted_kept y r.is_among q.0);
                inserts = q.0;
                object = same_object-true y.op.obj x.op.obj q.1;
                has_id = r.has_id;
                first = inr (ap (λ i. id_cmp i x.id) r.has_id ∙ r.lower);
              }
        ]

    headless : (x : Operation) → Contains S x → slot x ≡ Head → ⊥
    headless x c s =
        let k = kept_is x c in
        elim (cases_Bool x.op.insert) [
          | inl i ↦ let bad : Elem x.id ≡ Head = sym (slot-inserts (row x) i) ∙ s in cc
          | inr i ↦ both_ways x.op.insert i ((fine x k.0).head (sym (slot-not (row x) i) ∙ s))
        ]

    known : Known (elements A) t
    known = record {
      apart = apart;
      opened = λ r c e s. let x = from_t r c in subst (λ z. Opened t z e) x.2 (opened_op x.0 x.1 e (ap slot_of x.2 ∙ s));
      no_head = λ r c s. let x = from_t r c in headless x.0 x.1 (ap slot_of x.2 ∙ s);
      elements = elements_moved;
      once = once;
      told = λ o. walk_tells_order C v o (row_insertions o t) (moved o);
    }

    tied_rows : (x y : Row) → Contains t x → Contains t y → row_cmp (elements A) x y ≡ Equal → x ≡ y
    tied_rows x y c d e = apart_one t apart x y c d (id_exact x.id y.id (last_equal _ _ _ e))
      where
        last_equal : (o s i : Ordering) → ordering_then o (ordering_then s i) ≡ Equal → i ≡ Equal
        last_equal Less s i e = cc
        last_equal Equal Less i e = cc
        last_equal Equal Equal i e = e
        last_equal Equal Greater i e = cc
        last_equal Greater s i e = cc

    pub told : (t ≡ map row S → RowsInOrder t) × (RowsInOrder t → t ≡ map row S)
    told = (
      λ e. in_order_rising (elements A) t known (subst (Rises total) (sym e) rows_rise),
      λ h.
          sym (sorted_by-rising total t (rises_in_order (elements A) t known h))
          ∙ sym (sorted_by-permutation total (Contains t) tied_rows t (map row S) (all_of (Contains t) t (λ r c. c)) (IsPermutation-sym (map row S) t p))
          ∙ sorted_by-rising total (map row S) rows_rise,
    )

pub row_order_is_told : RowOrderIsTold
unfolding rows
row_order_is_told C v t p = let h = told C v t p in (h.1, h.0)
