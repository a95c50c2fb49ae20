-- In a valid set the elements of an object are the ids of the insertions into it, and each stands behind its reference.
use Rattle.std.proofs.Common.{suc, ◌≡◌, ◌≢◌, ◌+◌, ◌<◌, List, [], ◌∷◌, ◌++◌, map, filter, fold, Bool, true, false, refl, sym, ap, ◌∙◌, subst, inl, inr, ◌⊎◌, Contains, IsPermutation, arith}
use Rattle.std.specs.Bool.{⊤}
use Rattle.std.specs.Cmp.{nat_cmp_is}
use Rattle.std.specs.List.{AllByRecursion, position_or_len}
use Rattle.std.specs.Ordering.{is_gt, ordering_reverse}
use Rattle.std.specs.declared.cmp.Ordering.{Ordering}
use Rattle.std.specs.declared.cmp.Ordering.TheVariants.{Less, Equal, Greater}
use Rattle.std.proofs.lemmas.Bool.{cases_Bool, both_ways, and_parts}
use Rattle.std.proofs.lemmas.Cmp.{tied_itself}
use Rattle.std.proofs.lemmas.List.{append-nil}
use Rattle.std.proofs.lemmas.List.Elements.{recursion_from_All, All-from_recursion, All-contains}
use Rattle.std.proofs.lemmas.List.Sorted.{IsPermutation-refl, IsPermutation-sym, IsPermutation-trans, IsPermutation-cons, IsPermutation-middle, IsPermutation-append_left, Contains-permutation, All-permutation}
use Rattle.am_laws.specs.Records.{OpId, ObjId, Key, Name, Head, Elem}
use Rattle.am_types.specs.Order.{id_cmp, put_in_order}
use Rattle.am_types.specs.Same.{same_id, same_object}
use Rattle.am_types.specs.Operations.{Operation, all_operations, operation_cmp, ascending, slot, DistinctIds}
use Rattle.am_types.specs.Members.{Member, changes}
use Rattle.am_types.specs.ValidSets.{Valid}
use Rattle.am_types.specs.Elements.{put_after, put_at, inserts_into, insertions, elements}
use Rattle.am_types.specs.Places.{slot_cmp}
use Rattle.am_laws.specs.Laws.{ReferenceIsThere, FollowReferences}
use Rattle.am_types.proofs.Orders.{id_total, same_id-true, same_id_itself}
use Rattle.am_laws.proofs.Ancestry.{Contains-filter, Contains-from_filter}
use Rattle.am_laws.proofs.DistinctOperations.{distinct_ids_valid}
use Rattle.am_types.proofs.Lists.{Contains-head, Contains-tail}
use Rattle.am_types.proofs.Permuted.{operation_total}
use Rattle.am_laws.proofs.References.{stands}
use Rattle.am_types.proofs.Rising.{Rises, Rises-sorted_by, filter-sorted_by}
use Rattle.am_types.proofs.SameLaws.{same_object-true}
use Rattle.am_laws.proofs.SameMembers.{Contains-cons_cases}
use Rattle.am_types.proofs.Sorting.{IsPermutation-sorted_by}
use Rattle.am_laws.proofs.ValidSetLaws.{grounds_valid}

not_same : (a b : OpId) → a ≢ b → same_id a b ≡ false
not_same a b n = elim (cases_Bool (same_id a b)) [ inl t ↦ absurd (n (same_id-true a b t)) | inr f ↦ f ]

-- ---- an element is put

abbrev put : List OpId → Operation → List OpId
put fs x = put_at x.op.key x.id fs

-- behind such a key there is a place
abbrev HasPlace : List OpId → Key → Type 0
HasPlace fs Head = ⊤
HasPlace fs (Elem r) = Contains fs r
HasPlace fs (Name n) = ⊥

put_after_adds : (r e : OpId) (fs : List OpId) → Contains fs r → IsPermutation (e ∷ fs) (put_after r e fs)
put_after_adds r e [] c = absurd (omega (arith, c.1))
put_after_adds r e (f ∷ fs) c =
    let again : Contains fs r → IsPermutation (e ∷ fs) (put_after r e fs) = put_after_adds r e fs in
    let swapped : IsPermutation (e ∷ f ∷ fs) (f ∷ e ∷ fs) = IsPermutation-middle (e ∷ []) f fs in
    elim (cases_Bool (same_id f r)) [
      | inl s ↦ simp s swapped
      | inr s ↦ let there : Contains fs r = elim (Contains-cons_cases f fs r c) [ inl q ↦ absurd (both_ways (same_id f r) s (subst (λ i. same_id f i ≡ true) q (same_id_itself f))) | inr d ↦ d ] in
          simp s (IsPermutation-trans (e ∷ f ∷ fs) (f ∷ e ∷ fs) (f ∷ put_after r e fs) swapped (IsPermutation-cons f (e ∷ fs) (put_after r e fs) (again there)))
    ]

put_adds : (k : Key) (e : OpId) (fs : List OpId) → HasPlace fs k → IsPermutation (e ∷ fs) (put_at k e fs)
put_adds Head e fs h = IsPermutation-refl (e ∷ fs)
put_adds (Elem r) e fs h = put_after_adds r e fs h
put_adds (Name n) e fs h = absurd h

-- ---- one stands before another

abbrev IsAhead : OpId → OpId → List OpId → Type 0
IsAhead a b fs = position_or_len (same_id a) fs < position_or_len (same_id b) fs

at_first : (i f : OpId) (fs : List OpId) → same_id i f ≡ true → position_or_len (same_id i) (f ∷ fs) ≡ 0
at_first i f fs t = simp t refl

past_first : (i f : OpId) (fs : List OpId) → same_id i f ≡ false → position_or_len (same_id i) (f ∷ fs) ≡ 1 + position_or_len (same_id i) fs
past_first i f fs t = simp t refl

ahead_here : (a b f : OpId) (fs : List OpId) → same_id a f ≡ true → same_id b f ≡ false → IsAhead a b (f ∷ fs)
ahead_here a b f fs af bf = let p = at_first a f fs af in let q = past_first b f fs bf in omega arith

ahead_later : (a b f : OpId) (fs : List OpId) → same_id a f ≡ false → same_id b f ≡ false → IsAhead a b fs → IsAhead a b (f ∷ fs)
ahead_later a b f fs af bf h = let p = past_first a f fs af in let q = past_first b f fs bf in omega arith

put_after_ahead : (r e : OpId) (fs : List OpId) → Contains fs r → (Contains fs e → ⊥) → IsAhead r e (put_after r e fs)
put_after_ahead r e [] c n = absurd (omega (arith, c.1))
put_after_ahead r e (f ∷ fs) c n =
    let again : Contains fs r → (Contains fs e → ⊥) → IsAhead r e (put_after r e fs) = put_after_ahead r e fs in
    let apart : same_id e f ≡ false = not_same e f (λ q. n (subst (Contains (f ∷ fs)) (sym q) (Contains-head f fs))) in
    elim (cases_Bool (same_id f r)) [
      | inl s ↦ simp s (ahead_here r e f (e ∷ fs) (subst (λ i. same_id r i ≡ true) (sym (same_id-true f r s)) (same_id_itself r)) apart)
      | inr s ↦ let other : f ≢ r = λ q. both_ways (same_id f r) s (subst (λ i. same_id f i ≡ true) q (same_id_itself f)) in
          let there : Contains fs r = elim (Contains-cons_cases f fs r c) [ inl q ↦ absurd (other q) | inr d ↦ d ] in
          simp s (ahead_later r e f (put_after r e fs) (not_same r f (λ q. other (sym q))) apart (again there (λ d. n (Contains-tail f fs e d))))
    ]

-- another element leaves it so
put_after_keeps : (r n a b : OpId) (fs : List OpId) → same_id a n ≡ false → same_id b n ≡ false → IsAhead a b fs → IsAhead a b (put_after r n fs)
put_after_keeps r n a b [] an bn h = h
put_after_keeps r n a b (f ∷ fs) an bn h =
    let again : IsAhead a b fs → IsAhead a b (put_after r n fs) = put_after_keeps r n a b fs an bn in
    elim (cases_Bool (same_id b f)) [
      | inl bf ↦ let p = at_first b f fs bf in absurd (omega arith)
      | inr bf ↦ elim (cases_Bool (same_id a f)) [
        | inl af ↦ elim (cases_Bool (same_id f r)) [
          | inl s ↦ simp s (ahead_here a b f (n ∷ fs) af bf)
          | inr s ↦ simp s (ahead_here a b f (put_after r n fs) af bf)
        ]
        | inr af ↦ let p = past_first a f fs af in
            let q = past_first b f fs bf in
            let rest : IsAhead a b fs = omega arith in
            elim (cases_Bool (same_id f r)) [
              | inl s ↦ simp s (ahead_later a b f (n ∷ fs) af bf (ahead_later a b n fs an bn rest))
              | inr s ↦ simp s (ahead_later a b f (put_after r n fs) af bf (again rest))
            ]
      ]
    ]

put_keeps : (k : Key) (n a b : OpId) (fs : List OpId) → same_id a n ≡ false → same_id b n ≡ false → IsAhead a b fs → IsAhead a b (put_at k n fs)
put_keeps Head n a b fs an bn h = ahead_later a b n fs an bn h
put_keeps (Elem r) n a b fs an bn h = put_after_keeps r n a b fs an bn h
put_keeps (Name x) n a b fs an bn h = h

all_keep : (a b : OpId) (xs : List Operation) (fs : List OpId) → ((y : Operation) → Contains xs y → (same_id a y.id ≡ false) × (same_id b y.id ≡ false)) → IsAhead a b fs → IsAhead a b (fold put fs xs)
all_keep a b [] fs n h = h
all_keep a b (x ∷ xs) fs n h =
    let here = n x (Contains-head x xs) in
    all_keep a b xs (put fs x) (λ y c. n y (Contains-tail x xs y c)) (put_keeps x.op.key x.id a b fs here.0 here.1 h)

-- ---- all are put in turn

-- the reference of x is among fs or comes among xs, and has a lesser id
abbrev Comes : List OpId → List Operation → Operation → Key → Type 0
Comes fs xs x Head = ⊤
Comes fs xs x (Elem r) = (Contains fs r ⊎ ((y : Operation) × Contains xs y × (y.id ≡ r))) × (id_cmp r x.id ≡ Less)
Comes fs xs x (Name n) = ⊥

abbrev AllCome : List OpId → List Operation → Type 0
AllCome fs xs = (y : Operation) → Contains xs y → Comes fs xs y y.op.key

-- no two have one id
abbrev Apart : List Operation → Type 0
Apart [] = ⊤
Apart (x ∷ xs) = AllByRecursion (λ y. x.id ≢ y.id) xs × Apart xs

of_all : {X : Type 0} (P : X → Type 0) (xs : List X) (x : X) → AllByRecursion P xs → Contains xs x → P x
of_all P xs x all c = All-contains P xs x (All-from_recursion P xs all) c

not_above : (x y : Operation) → is_gt (operation_cmp x y) ≡ false → id_cmp y.id x.id ≡ Less → ⊥
not_above x y f less =
    let greater : id_cmp x.id y.id ≡ Greater = id_total.antisymm x.id y.id ∙ ap ordering_reverse less in
    both_ways (is_gt (operation_cmp x y)) f (ap is_gt greater)

not_below_itself : (i : OpId) → id_cmp i i ≡ Less → ⊥
not_below_itself i less = let tied = tied_itself id_total i in both_less (id_cmp i i) less tied
  where
    both_less : (r : Ordering) → r ≡ Less → r ≡ Equal → ⊥
    both_less r a b = cc

-- the reference of the first of xs is there
first_has_place : (fs : List OpId) (x : Operation) (xs : List Operation) → Rises operation_total (x ∷ xs) → (k : Key) → Comes fs (x ∷ xs) x k → HasPlace fs k
first_has_place fs x xs rises Head come = tt
first_has_place fs x xs rises (Elem r) come = elim come.0 [
  | inl c ↦ c
  | inr y ↦ let less : id_cmp y.0.id x.id ≡ Less = subst (λ i. id_cmp i x.id ≡ Less) (sym y.2) come.1 in
      elim (Contains-cons_cases x xs y.0 y.1) [
        | inl e ↦ absurd (not_below_itself x.id (subst (λ (z : Operation). id_cmp z.id x.id ≡ Less) (sym e) less))
        | inr d ↦ absurd (not_above x y.0 (of_all (λ z. is_gt (operation_cmp x z) ≡ false) xs y.0 rises.0 d) less)
      ]
]
first_has_place fs x xs rises (Name n) come = absurd come

comes_next : (fs gs : List OpId) (x : Operation) (xs : List Operation) → IsPermutation (x.id ∷ fs) gs → (y : Operation) (k : Key) → Comes fs (x ∷ xs) y k → Comes gs xs y k
comes_next fs gs x xs perm y Head come = tt
comes_next fs gs x xs perm y (Elem r) come = (
  elim come.0 [
    | inl c ↦ inl (Contains-permutation (x.id ∷ fs) gs r perm (Contains-tail x.id fs r c))
    | inr z ↦ elim (Contains-cons_cases x xs z.0 z.1) [
      | inl e ↦ inl (Contains-permutation (x.id ∷ fs) gs r perm (subst (Contains (x.id ∷ fs)) (ap (λ (w : Operation). w.id) e ∙ z.2) (Contains-head x.id fs)))
      | inr d ↦ inr (z.0, d, z.2)
    ]
  ],
  come.1,
)
comes_next fs gs x xs perm y (Name n) come = come

all_put : (fs : List OpId) (xs : List Operation) → Rises operation_total xs → AllCome fs xs → IsPermutation (fs ++ map (λ x. x.id) xs) (fold put fs xs)
all_put fs [] rises come = subst (λ l. IsPermutation l fs) (sym (append-nil fs)) (IsPermutation-refl fs)
all_put fs (x ∷ xs) rises come =
    let ids : List OpId = map (λ x. x.id) xs in
    let added = put_adds x.op.key x.id fs (first_has_place fs x xs rises x.op.key (come x (Contains-head x xs))) in
    IsPermutation-trans (fs ++ x.id ∷ ids) ((x.id ∷ fs) ++ ids) (fold put (put fs x) xs)
    (IsPermutation-middle fs x.id ids)
    (IsPermutation-trans ((x.id ∷ fs) ++ ids) (put fs x ++ ids) (fold put (put fs x) xs)
    (IsPermutation-append_left ids (x.id ∷ fs) (put fs x) added)
    (all_put (put fs x) xs rises.1 (λ y c. comes_next fs (put fs x) x xs added y y.op.key (come y (Contains-tail x xs y c)))))

all_follow : (fs : List OpId) (xs : List Operation) → Rises operation_total xs → Apart xs → ((y : Operation) → Contains xs y → Contains fs y.id → ⊥) → AllCome fs xs
    → (x : Operation) → Contains xs x → (r : OpId) → x.op.key ≡ Elem r → IsAhead r x.id (fold put fs xs)
all_follow fs [] rises apart fresh come x c r e = absurd (omega (arith, c.1))
all_follow fs (z ∷ zs) rises apart fresh come x c r e =
    let here : HasPlace fs z.op.key = first_has_place fs z zs rises z.op.key (come z (Contains-head z zs)) in
    let added = put_adds z.op.key z.id fs here in
    let again : Contains zs x → IsAhead r x.id (fold put (put fs z) zs) = λ d.
    all_follow (put fs z) zs rises.1 apart.1
    (λ y cy cp. elim (Contains-cons_cases z.id fs y.id (Contains-permutation (put fs z) (z.id ∷ fs) y.id (IsPermutation-sym (z.id ∷ fs) (put fs z) added) cp)) [
      | inl q ↦ of_all (λ (w : Operation). z.id ≢ w.id) zs y apart.0 cy q
      | inr cf ↦ fresh y (Contains-tail z zs y cy) cf
    ])
    (λ y cy. comes_next fs (put fs z) z zs added y y.op.key (come y (Contains-tail z zs y cy)))
    x d r e in
    elim (Contains-cons_cases z zs x c) [
      | inl q ↦ let key : z.op.key ≡ Elem r = ap (λ (w : Operation). w.op.key) q ∙ e in
          let has : Contains fs r = subst (HasPlace fs) key here in
          let first : IsAhead r z.id (put fs z) = subst (λ k. IsAhead r z.id (put_at k z.id fs)) (sym key) (put_after_ahead r z.id fs has (fresh z (Contains-head z zs))) in
          let whole : IsAhead r z.id (fold put (put fs z) zs) = all_keep r z.id zs (put fs z)
          (λ y cy. (
            not_same r y.id (λ p. fresh y (Contains-tail z zs y cy) (subst (Contains fs) p has)),
            not_same z.id y.id (of_all (λ (w : Operation). z.id ≢ w.id) zs y apart.0 cy),
          )) first in
          subst (λ (w : Operation). IsAhead r w.id (fold put (put fs z) zs)) q whole
      | inr d ↦ again d
    ]

-- ---- sorted operations have distinct ids where the operations have

all_put_in : (P : Operation → Type 0) (x : Operation) (ys : List Operation) → P x → AllByRecursion P ys → AllByRecursion P (put_in_order operation_cmp x ys)
all_put_in P x [] px all = (px, tt)
all_put_in P x (y ∷ ys) px all = elim (cases_Bool (is_gt (operation_cmp x y))) [
  | inl g ↦ simp g (all.0, all_put_in P x ys px all.1)
  | inr g ↦ simp g (px, all)
]

apart_put : (x : Operation) (ys : List Operation) → AllByRecursion (λ y. x.id ≢ y.id) ys → Apart ys → Apart (put_in_order operation_cmp x ys)
apart_put x [] n a = (tt, tt)
apart_put x (y ∷ ys) n a = elim (cases_Bool (is_gt (operation_cmp x y))) [
  | inl g ↦ simp g (all_put_in (λ z. y.id ≢ z.id) x ys (λ e. n.0 (sym e)) a.0, apart_put x ys n.1 a.1)
  | inr g ↦ simp g (n, a)
]

apart_sorted : (A : List Operation) → DistinctIds A → Apart (ascending A)
apart_sorted [] d = tt
apart_sorted (x ∷ A) d =
    apart_put x (ascending A)
    (recursion_from_All (λ (y : Operation). x.id ≢ y.id) (ascending A)
    (All-permutation (λ (y : Operation). x.id ≢ y.id) A (ascending A) (IsPermutation-sorted_by operation_cmp A) (λ k e l. d 0 (suc k) e (omega arith) (omega arith))))
    (apart_sorted A (λ i j e p q. d (suc i) (suc j) e (omega arith) (omega arith)))

all_filter : (P : Operation → Type 0) (p : Operation → Bool) (xs : List Operation) → AllByRecursion P xs → AllByRecursion P (filter p xs)
all_filter P p [] all = tt
all_filter P p (x ∷ xs) all = elim (cases_Bool (p x)) [
  | inl t ↦ simp t (all.0, all_filter P p xs all.1)
  | inr f ↦ simp f (all_filter P p xs all.1)
]

apart_filter : (p : Operation → Bool) (xs : List Operation) → Apart xs → Apart (filter p xs)
apart_filter p [] a = tt
apart_filter p (x ∷ xs) a = elim (cases_Bool (p x)) [
  | inl t ↦ simp t (all_filter (λ y. x.id ≢ y.id) p xs a.0, apart_filter p xs a.1)
  | inr f ↦ simp f (apart_filter p xs a.1)
]

-- ---- a valid set

module _ (C : List Member) (v : Valid C) (o : ObjId) where
  abbrev A : List Operation
  A = all_operations (changes C)

  abbrev E : List Operation
  E = insertions A o

  in_ascending : (x : Operation) → Contains A x → Contains (ascending A) x
  in_ascending x c = Contains-permutation A (ascending A) x (IsPermutation-sorted_by operation_cmp A) c

  from_ascending : (x : Operation) → Contains (ascending A) x → Contains A x
  from_ascending x c = Contains-permutation (ascending A) A x (IsPermutation-sym A (ascending A) (IsPermutation-sorted_by operation_cmp A)) c

  rises : Rises operation_total E
  rises = subst (Rises operation_total) (sym (filter-sorted_by operation_total (inserts_into o) A)) (Rises-sorted_by operation_total (filter (inserts_into o) A))

  comes_from : (x : Operation) → x.op.obj ≡ o → (k : Key) → ReferenceIsThere A x k → Comes [] E x k
  comes_from x e Head there = tt
  comes_from x e (Elem r) there = (
    inr (
      there.insertion,
      Contains-filter (inserts_into o) (ascending A) there.insertion (in_ascending there.insertion there.is_among) (subst (λ p. inserts_into p there.insertion ≡ true) e there.inserts),
      there.has_id,
    ),
    there.lower,
  )
  comes_from x e (Name n) there = there

  there_of : (x : Operation) → Contains A x → inserts_into o x ≡ true → ReferenceIsThere A x x.op.key
  there_of x c t = stands C (grounds_valid C v) x c (and_parts x.op.insert (same_object x.op.obj o) t).0 x.op.key refl

  come : AllCome [] E
  come x c =
      let f = Contains-from_filter (inserts_into o) (ascending A) x c in
      comes_from x (same_object-true x.op.obj o (and_parts x.op.insert (same_object x.op.obj o) f.1).1) x.op.key (there_of x (from_ascending x f.0) f.1)

  ahead : (x : Operation) → Contains A x → inserts_into o x ≡ true → (r : OpId) → x.op.key ≡ Elem r → IsAhead r x.id (elements A o)
  unfolding elements
  ahead x c t r e =
      all_follow [] E rises (apart_filter (inserts_into o) (ascending A) (apart_sorted A (distinct_ids_valid C v))) (λ y cy n. absurd (omega (arith, n.1))) come
      x (Contains-filter (inserts_into o) (ascending A) x (in_ascending x c) t) r e

  behind : (x : Operation) → Contains A x → inserts_into o x ≡ true → slot_cmp (elements A o) x.op.key (slot x) ≡ Less
  behind x c t =
      let insert : x.op.insert ≡ true = (and_parts x.op.insert (same_object x.op.obj o) t).0 in
      let is : slot x ≡ Elem x.id = simp insert refl in
      subst (λ s. slot_cmp (elements A o) x.op.key s ≡ Less) (sym is) (go x.op.key refl (there_of x c t))
    where
      go : (k : Key) → x.op.key ≡ k → ReferenceIsThere A x k → slot_cmp (elements A o) k (Elem x.id) ≡ Less
      go Head e there = refl
      go (Elem r) e there = sym (nat_cmp_is _ _ Less (ahead x c t r e))
      go (Name n) e there = absurd there

  ids : IsPermutation (map (λ x. x.id) E) (elements A o)
  unfolding elements
  ids = all_put [] E rises come

  pub follow_references : FollowReferences A o
  follow_references = record { ids = ids; behind = behind }
