-- In a valid set the walk accepts just the insertions into an object in element order.
use Rattle.std.proofs.Common.{suc, ◌≡◌, ◌≢◌, List, [], ◌∷◌, ◌++◌, map, filter, fold, Bool, true, false, refl, sym, ap, ◌∙◌, subst, inl, inr, Contains, IsPermutation, arith}
use Rattle.std.specs.List.{AllByRecursion, IsDistinct}
use Rattle.std.specs.Ordering.{is_eq, is_gt}
use Rattle.std.specs.declared.cmp.Ordering.{Ordering}
use Rattle.std.specs.declared.cmp.Ordering.TheVariants.{Less, Equal, Greater}
use Rattle.std.proofs.lemmas.Bool.{cases_Bool, both_ways, and_parts, false_from_ne_true}
use Rattle.std.proofs.lemmas.Cmp.{eq_by_cmp_equiv}
use Rattle.std.proofs.lemmas.List.{append_assoc, map-append}
use Rattle.std.proofs.lemmas.List.Elements.{All-contains, All-from_recursion, Contains-append_left, Contains-append_right, Contains-append_cases, Contains-push_cases}
use Rattle.std.proofs.lemmas.List.Sorted.{IsPermutation-sym, IsPermutation-map, Contains-permutation}
use Rattle.std.proofs.lemmas.Map.Keys.{IsDistinct-head, IsDistinct-tail, IsDistinct-IsPermutation}
use Rattle.am_types.specs.declared.OpId.{OpId}
use Rattle.am_types.specs.declared.ObjId.{ObjId}
use Rattle.am_types.specs.declared.Key.{Key}
use Rattle.am_types.specs.declared.Key.TheVariants.{Name, Head, Elem}
use Rattle.am_types.specs.Order.{id_cmp, sorted_by}
use Rattle.am_types.specs.Same.{same_id, same_object}
use Rattle.am_types.specs.Operations.{Operation, all_operations, operation_cmp, ascending, DistinctIds}
use Rattle.am_types.specs.Members.{Member, changes}
use Rattle.am_types.specs.ValidSets.{Valid}
use Rattle.am_types.specs.Elements.{put_at, inserts_into, insertions, elements}
use Rattle.am_laws.specs.Laws.{ReferenceIsThere}
use Rattle.am_types.proofs.Orders.{id_total, id_exact, same_id-true}
use Rattle.am_laws.proofs.Ancestry.{Contains-filter, Contains-from_filter}
use Rattle.am_laws.proofs.DistinctOperations.{distinct_ids_valid}
use Rattle.am_types.proofs.Permuted.{operation_total}
use Rattle.am_laws.proofs.References.{stands}
use Rattle.am_types.proofs.Rising.{Rises, Rises-sorted_by, filter-sorted_by}
use Rattle.am_types.proofs.SameLaws.{same_object-true}
use Rattle.am_types.proofs.Sorting.{IsPermutation-sorted_by}
use Rattle.am_laws.proofs.ValidSetLaws.{grounds_valid}
use Rattle.am_histories.specs.Walks.{Insertion, insertion_of}
use Rattle.am_histories.specs.Laws.{WalkTellsOrder}
use Rattle.am_histories.proofs.Sorted.{Contains-cases, Contains-here, Contains-there, Contains-none, not_less_itself, not_both}
use Rattle.am_histories.proofs.Contained.{Contains-map, Contains-from_map}
use Rattle.am_histories.proofs.Restored.{Contains-sorted_by, Contains-from_sorted_by}
use Rattle.am_histories.proofs.Arranged.{Apart, HasJust, HasReference, IsNext, Follow, placed, walked}

-- ---- distinct ids

abbrev AreDistinct : List OpId → Type 0
AreDistinct is = IsDistinct same_id is

pub flips : (i j : OpId) → same_id i j ≡ same_id j i
flips = (eq_by_cmp_equiv id_total).symm

each_differs : (i : OpId) (ys : List Operation) → ((y : Operation) → Contains ys y → i ≢ y.id) → AllByRecursion (λ j. same_id i j ≡ false) (map (λ (x : Operation). x.id) ys)
each_differs i [] f = tt
each_differs i (y ∷ ys) f = (
  false_from_ne_true _ (λ t. f y (Contains-here y ys) (same_id-true i y.id t)),
  each_differs i ys (λ z c. f z (Contains-there y z ys c)),
)

pub kept_distinct : (p : Operation → Bool) (A : List Operation) → DistinctIds A → AreDistinct (map (λ (x : Operation). x.id) (filter p A))
unfolding IsDistinct
kept_distinct p [] d = tt
kept_distinct p (x ∷ A) d =
    let again : AreDistinct (map (λ (x : Operation). x.id) (filter p A)) = kept_distinct p A (λ i j e l m. d (suc i) (suc j) e (omega arith) (omega arith)) in
    let other : (y : Operation) → Contains (filter p A) y → x.id ≢ y.id = λ y c e.
    let k = (Contains-from_filter p A y c).0 in
    d 0 (suc k.0) y (omega arith) (omega (arith, k.1)) (e ∙ ap (λ (z : Operation). z.id) (sym k.2)) in
    elim (cases_Bool (p x)) [
      | inl e ↦ simp e (each_differs x.id (filter p A) other, again)
      | inr e ↦ simp e again
    ]

apart_from_distinct : (E : List Insertion) → AreDistinct (map (λ (x : Insertion). x.id) E) → Apart E
apart_from_distinct [] d = tt
apart_from_distinct (x ∷ E) d =
    let ids : List OpId = map (λ (x : Insertion). x.id) E in (
      λ y c e. both_ways (same_id x.id y.id)
          (All-contains (λ j. same_id x.id j ≡ false) ids y.id (All-from_recursion (λ j. same_id x.id j ≡ false) ids (IsDistinct-head same_id x.id ids d)) (Contains-map (λ (x : Insertion). x.id) E y c))
          (subst (λ j. same_id x.id j ≡ true) e ((eq_by_cmp_equiv id_total).refl x.id)),
      apart_from_distinct E (IsDistinct-tail same_id x.id ids d),
    )

same_ids : (xs : List Operation) → map (λ (x : Insertion). x.id) (map insertion_of xs) ≡ map (λ (x : Operation). x.id) xs
same_ids [] = refl
same_ids (x ∷ xs) = ap (λ l. x.id ∷ l) (same_ids xs)

same_put : (fs : List OpId) (xs : List Operation) → fold (λ fs (x : Operation). put_at x.op.key x.id fs) fs xs ≡ placed fs (map insertion_of xs)
same_put fs [] = refl
same_put fs (x ∷ xs) = same_put (put_at x.op.key x.id fs) xs

-- ---- operations that ascend

pub below_next : (x z : Operation) → is_gt (operation_cmp x z) ≡ false → same_id x.id z.id ≡ false → id_cmp x.id z.id ≡ Less
below_next x z g n = go (id_cmp x.id z.id) refl
  where
    go : (o : Ordering) → id_cmp x.id z.id ≡ o → id_cmp x.id z.id ≡ Less
    go Less e = e
    go Equal e = absurd (both_ways (same_id x.id z.id) n (ap is_eq e))
    go Greater e = absurd (both_ways (is_gt (operation_cmp x z)) g (ap is_gt e))

module _ (L : List Operation)
    (there : (x : Operation) → Contains L x → ReferenceIsThere L x x.op.key) where
  module _ (B rest : List Operation) (x : Operation) (w : L ≡ B ++ x ∷ rest)
      (before : (y z : Operation) → Contains B y → Contains (x ∷ rest) z → id_cmp y.id z.id ≡ Less)
      (after : (z : Operation) → Contains rest z → id_cmp x.id z.id ≡ Less) where
    in_L : (y : Operation) → Contains (B ++ x ∷ rest) y → Contains L y
    in_L y c = subst (λ l. Contains l y) (sym w) c

    named : (k : Key) → ReferenceIsThere L x k → HasReference (map insertion_of B) k
    named Head t = tt
    named (Name n) t = absurd t
    named (Elem r) t =
        let y = t.insertion in
        let less : id_cmp y.id x.id ≡ Less = ap (λ i. id_cmp i x.id) t.has_id ∙ t.lower in
        elim (Contains-append_cases B (x ∷ rest) y (subst (λ l. Contains l y) w t.is_among)) [
          | inl c ↦ (insertion_of y, Contains-map insertion_of B y c, t.has_id)
          | inr c ↦ elim (Contains-cases x y rest c) [
            | inl e ↦ absurd (not_less_itself id_total id_exact y.id x.id (ap (λ (z : Operation). z.id) (sym e)) less)
            | inr d ↦ absurd (not_both id_total id_exact y.id x.id less (after y d))
          ]
        ]

    unnamed : (y : Operation) → Contains B y → y.op.key ≡ Elem x.id → ⊥
    unnamed y c e =
        let t = subst (ReferenceIsThere L y) e (there y (in_L y (Contains-append_left B (x ∷ rest) y c))) in
        not_both id_total id_exact x.id y.id t.lower (before y x c (Contains-here x rest))

    next : IsNext (map insertion_of B) (insertion_of x)
    next = record {
      greatest = λ y c. let o = Contains-from_map insertion_of B y c in subst (λ (z : Insertion). id_cmp z.id x.id ≡ Less) o.2 (before o.0 x o.1 (Contains-here x rest));
      unnamed = λ y c e. let o = Contains-from_map insertion_of B y c in unnamed o.0 o.1 (ap (λ (z : Insertion). z.reference) o.2 ∙ e);
      reference = named x.op.key (there x (in_L x (Contains-append_right B (x ∷ rest) x (Contains-here x rest))));
    }

  follow_from : (B rest : List Operation) → L ≡ B ++ rest → Rises operation_total rest → AreDistinct (map (λ (x : Operation). x.id) rest)
      → ((y z : Operation) → Contains B y → Contains rest z → id_cmp y.id z.id ≡ Less) → Follow (map insertion_of B) (map insertion_of rest)
  follow_from B [] w r d before = tt
  follow_from B (x ∷ rest) w r d before =
      let ids : List OpId = map (λ (x : Operation). x.id) rest in
      let after : (z : Operation) → Contains rest z → id_cmp x.id z.id ≡ Less = λ z c.
      below_next x z
      (All-contains (λ y. is_gt (operation_cmp x y) ≡ false) rest z (All-from_recursion (λ y. is_gt (operation_cmp x y) ≡ false) rest r.0) c)
      (All-contains (λ j. same_id x.id j ≡ false) ids z.id (All-from_recursion (λ j. same_id x.id j ≡ false) ids (IsDistinct-head same_id x.id ids d)) (Contains-map (λ (x : Operation). x.id) rest z c)) in (
        next B rest x w before after,
        subst (λ l. Follow l (map insertion_of rest)) (map-append insertion_of B (x ∷ []))
            (follow_from (B ++ x ∷ []) rest (w ∙ sym (append_assoc B (x ∷ []) rest)) r.1 (IsDistinct-tail same_id x.id ids d)
            (λ y z c e. elim (Contains-push_cases B x y c) [
              | inl f ↦ before y z f (Contains-there x z rest e)
              | inr f ↦ subst (λ (u : Operation). id_cmp u.id z.id ≡ Less) f (after z e)
            ])),
      )

-- ---- a valid set

module _ (C : List Member) (v : Valid C) (o : ObjId) where
  abbrev A : List Operation
  A = all_operations (changes C)

  abbrev L : List Operation
  L = insertions A o

  rising : Rises operation_total L
  rising = subst (Rises operation_total) (sym (filter-sorted_by operation_total (inserts_into o) A)) (Rises-sorted_by operation_total (filter (inserts_into o) A))

  distinct : AreDistinct (map (λ (x : Operation). x.id) L)
  distinct =
      let F : List Operation = filter (inserts_into o) A in
      subst (λ l. AreDistinct (map (λ (x : Operation). x.id) l)) (sym (filter-sorted_by operation_total (inserts_into o) A))
      (IsDistinct-IsPermutation same_id flips (map (λ (x : Operation). x.id) F) (map (λ (x : Operation). x.id) (sorted_by operation_cmp F))
      (IsPermutation-map (λ (x : Operation). x.id) F (sorted_by operation_cmp F) (IsPermutation-sorted_by operation_cmp F))
      (kept_distinct (inserts_into o) A (distinct_ids_valid C v)))

  in_A : (x : Operation) → Contains L x → Contains A x × (inserts_into o x ≡ true)
  in_A x c = let f = Contains-from_filter (inserts_into o) (ascending A) x c in (Contains-from_sorted_by operation_cmp A x f.0, f.1)

  within : (x : Operation) → x.op.obj ≡ o → (k : Key) → ReferenceIsThere A x k → ReferenceIsThere L x k
  within x e Head t = tt
  within x e (Name n) t = t
  within x e (Elem r) t = record {
    insertion = t.insertion;
    is_among = Contains-filter (inserts_into o) (ascending A) t.insertion (Contains-sorted_by operation_cmp A t.insertion t.is_among) (subst (λ p. inserts_into p t.insertion ≡ true) e t.inserts);
    has_id = t.has_id;
    inserts = t.inserts;
    lower = t.lower;
  }

  there : (x : Operation) → Contains L x → ReferenceIsThere L x x.op.key
  there x c =
      let a = in_A x c in
      let p = and_parts x.op.insert (same_object x.op.obj o) a.1 in
      within x (same_object-true x.op.obj o p.1) x.op.key (stands C (grounds_valid C v) x a.0 p.0 x.op.key refl)

  follows : Follow [] (map insertion_of L)
  follows = follow_from L there [] L refl rising distinct (λ y z c. absurd (Contains-none y c))

  just : (E : List Insertion) → IsPermutation (map insertion_of L) E → HasJust (map insertion_of L) E
  just E p =
      let ids : List OpId = map (λ (x : Insertion). x.id) (map insertion_of L) in
      record {
        apart = apart_from_distinct E (IsDistinct-IsPermutation same_id flips ids (map (λ (x : Insertion). x.id) E)
            (IsPermutation-map (λ (x : Insertion). x.id) (map insertion_of L) E p) (subst AreDistinct (sym (same_ids L)) distinct));
        from = λ y c. Contains-permutation E (map insertion_of L) y (IsPermutation-sym (map insertion_of L) E p) c;
        has = λ y c. Contains-permutation (map insertion_of L) E y p c;
      }

pub walk_tells_order : WalkTellsOrder
unfolding elements
walk_tells_order C v o E p =
    let t = walked (map insertion_of (insertions (all_operations (changes C)) o)) E (follows C v o) (just C v o E p) in
    let same = same_put [] (insertions (all_operations (changes C)) o) in
    (λ e. t.0 e ∙ sym same, λ e. t.1 (e ∙ same))
