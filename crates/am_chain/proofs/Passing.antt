-- Elements that are put in turn, passing those that are greater, stand in the order of elements, whatever the order
-- of the insertions.
use Rattle.std.proofs.Common.{◌≡◌, ◌≢◌, List, [], ◌∷◌, ◌++◌, fold, true, false, refl, sym, ap, ◌∙◌, subst, inl, inr, IsPermutation}
use Rattle.std.specs.Bool.{⊤}
use Rattle.std.specs.List.{AllByRecursion}
use Rattle.std.specs.Ordering.{is_gt, flip_args, ordering_reverse}
use Rattle.std.specs.declared.cmp.Ordering.{Ordering}
use Rattle.std.specs.declared.cmp.Ordering.TheVariants.{Less, Greater}
use Rattle.std.proofs.lemmas.Bool.{cases_Bool, both_ways}
use Rattle.std.proofs.lemmas.Cmp.{back_total}
use Rattle.std.proofs.lemmas.List.Sums.{fold-append}
use Rattle.std.proofs.lemmas.List.Elements.{filter-append}
use Rattle.std.proofs.lemmas.List.Sorted.{IsPermutation-append}
use Rattle.am_types.specs.declared.OpId.{OpId}
use Rattle.am_types.specs.declared.ObjId.{ObjId}
use Rattle.am_types.specs.declared.Key.{Key}
use Rattle.am_types.specs.declared.Key.TheVariants.{Name, Head, Elem}
use Rattle.am_types.specs.Order.{id_cmp, put_in_order, sorted_by}
use Rattle.am_types.specs.Same.{same_id}
use Rattle.am_types.specs.Operations.{Operation, OneOperationPerId, operation_cmp, ascending}
use Rattle.am_types.specs.Elements.{put_after, put_at, elements, inserts_into, insertions}
use Rattle.am_types.proofs.Orders.{id_total, id_exact, same_id-true, same_id_itself}
use Rattle.am_types.proofs.Sorting.{put_commute, IsPermutation-sorted_by}
use Rattle.am_types.proofs.Rising.{Rises, Rises-sorted_by, filter-sorted_by}
use Rattle.am_types.proofs.Permuted.{operation_total, ascending-permutation}
use Rattle.am_chain.specs.Laws.{OrderIsFree}
use Rattle.am_chain.specs.Passing.{put_below, put_below_after, put_passing, put_in_turn, IsAbove, IsAboveReference, RefersBack, RefersNot, into}

-- ---- two insertions may be exchanged

below_is : (e : OpId) (fs : List OpId) → put_below e fs ≡ put_in_order (flip_args id_cmp) e fs
below_is e [] = refl
below_is e (f ∷ fs) = let again = below_is e fs in elim (cases_Bool (is_gt (id_cmp f e))) [ inl h ↦ simp (h, again) refl | inr h ↦ simp h refl ]

below_twice : (a b : OpId) (fs : List OpId) → put_below a (put_below b fs) ≡ put_below b (put_below a fs)
below_twice a b fs =
    rw (below_is b fs, below_is a fs, below_is a (put_in_order (flip_args id_cmp) b fs), below_is b (put_in_order (flip_args id_cmp) a fs))
    (put_commute (back_total id_total) (λ _. ⊤) (λ x y _ _ h. sym (id_exact y x h)) a b tt tt fs)

not_same : (a b : OpId) → a ≢ b → same_id a b ≡ false
not_same a b n = elim (cases_Bool (same_id a b)) [ inl h ↦ absurd (n (same_id-true a b h)) | inr h ↦ h ]

below_and_after : (a r b : OpId) (fs : List OpId) → r ≢ a → put_below a (put_below_after r b fs) ≡ put_below_after r b (put_below a fs)
below_and_after a r b [] n = let e = not_same a r (λ h. n (sym h)) in simp e refl
below_and_after a r b (f ∷ fs) n =
    let again = below_and_after a r b fs n in
    let e = not_same a r (λ h. n (sym h)) in
    elim (cases_Bool (is_gt (id_cmp f a))) [
      | inl up ↦ elim (cases_Bool (same_id f r)) [
        | inl s ↦ simp (up, s, up, s) (ap (λ l. f ∷ l) (below_twice a b fs))
        | inr s ↦ simp (up, s, up, s) (ap (λ l. f ∷ l) again)
      ]
      | inr up ↦ elim (cases_Bool (same_id f r)) [
        | inl s ↦ simp (up, s, up, s, e) refl
        | inr s ↦ simp (up, s, up, s, e) refl
      ]
    ]

after_twice : (r a s b : OpId) (fs : List OpId) → r ≢ b → s ≢ a → put_below_after r a (put_below_after s b fs) ≡ put_below_after s b (put_below_after r a fs)
after_twice r a s b [] n m = refl
after_twice r a s b (f ∷ fs) n m =
    let again = after_twice r a s b fs n m in
    elim (cases_Bool (same_id f r)) [
      | inl e ↦ elim (cases_Bool (same_id f s)) [
        | inl g ↦ simp (e, g, e, g) (ap (λ l. f ∷ l) (below_twice a b fs))
        | inr g ↦ simp (e, g, e, g) (ap (λ l. f ∷ l) (below_and_after a s b fs m))
      ]
      | inr e ↦ elim (cases_Bool (same_id f s)) [
        | inl g ↦ simp (e, g, e, g) (ap (λ l. f ∷ l) (sym (below_and_after b r a fs n)))
        | inr g ↦ simp (e, g, e, g) (ap (λ l. f ∷ l) again)
      ]
    ]

-- neither refers to the other
pub passing_twice : (k : Key) (a : OpId) (j : Key) (b : OpId) (fs : List OpId) → k ≢ Elem b → j ≢ Elem a → put_passing k a (put_passing j b fs) ≡ put_passing j b (put_passing k a fs)
passing_twice Head a Head b fs n m = below_twice a b fs
passing_twice Head a (Elem s) b fs n m = below_and_after a s b fs (λ h. m (ap (λ i. Elem i) h))
passing_twice (Elem r) a Head b fs n m = sym (below_and_after b r a fs (λ h. n (ap (λ i. Elem i) h)))
passing_twice (Elem r) a (Elem s) b fs n m = after_twice r a s b fs (λ h. n (ap (λ i. Elem i) h)) (λ h. m (ap (λ i. Elem i) h))
passing_twice (Name x) a j b fs n m = refl
passing_twice Head a (Name y) b fs n m = refl
passing_twice (Elem r) a (Name y) b fs n m = refl

-- ---- any order is as good as the ascending one

AllByRecursion-put : {X : Type 0} (P : X → Type 0) (R : X → X → Ordering) (x : X) (ys : List X) → P x → AllByRecursion P ys → AllByRecursion P (put_in_order R x ys)
AllByRecursion-put P R x [] px all = (px, tt)
AllByRecursion-put P R x (y ∷ ys) px all = elim (cases_Bool (is_gt (R x y))) [
  | inl e ↦ simp e (all.0, AllByRecursion-put P R x ys px all.1)
  | inr e ↦ simp e (px, all)
]

AllByRecursion-sorted_by : {X : Type 0} (P : X → Type 0) (R : X → X → Ordering) (xs : List X) → AllByRecursion P xs → AllByRecursion P (sorted_by R xs)
AllByRecursion-sorted_by P R [] all = tt
AllByRecursion-sorted_by P R (x ∷ xs) all = AllByRecursion-put P R x (sorted_by R xs) all.0 (AllByRecursion-sorted_by P R xs all.1)

-- what is above its reference doesn't refer to what is above it
refers_below : (y : Operation) (e : OpId) → IsAboveReference y → is_gt (id_cmp e y.id) ≡ true → y.op.key ≢ Elem e
refers_below y e above up k =
    let less : id_cmp e y.id ≡ Less = subst (λ (j : Key). IsAbove y.id j) k above in
    both_ways (is_gt (id_cmp e y.id)) (rw less) up

-- an insertion may wait until those below it are done
put_later : (x : Operation) (ys : List Operation) (fs : List OpId) → AllByRecursion (λ y. x.op.key ≢ Elem y.id) ys → AllByRecursion IsAboveReference ys → put_in_turn (put_passing x.op.key x.id fs) ys ≡ put_in_turn fs (put_in_order operation_cmp x ys)
put_later x [] fs apart above = refl
put_later x (y ∷ ys) fs apart above =
    let again : put_in_turn (put_passing x.op.key x.id (put_passing y.op.key y.id fs)) ys ≡ put_in_turn (put_passing y.op.key y.id fs) (put_in_order operation_cmp x ys)
    = put_later x ys (put_passing y.op.key y.id fs) apart.1 above.1 in
    elim (cases_Bool (is_gt (id_cmp x.id y.id))) [
      | inl up ↦ simp up (ap (λ l. put_in_turn l ys) (sym (passing_twice x.op.key x.id y.op.key y.id fs apart.0 (refers_below y x.id above.0 up))) ∙ again)
      | inr up ↦ simp up refl
    ]

put_in_turn-ascending : (xs : List Operation) (fs : List OpId) → RefersBack xs → AllByRecursion IsAboveReference xs → put_in_turn fs xs ≡ put_in_turn fs (ascending xs)
put_in_turn-ascending [] fs back above = refl
put_in_turn-ascending (x ∷ xs) fs back above =
    put_in_turn-ascending xs (put_passing x.op.key x.id fs) back.1 above.1
    ∙ put_later x (ascending xs) fs (AllByRecursion-sorted_by _ operation_cmp xs back.0) (AllByRecursion-sorted_by _ operation_cmp xs above.1)

-- ---- in ascending order nothing is passed

abbrev NoneAbove : OpId → List OpId → Type 0
NoneAbove e fs = AllByRecursion (λ f. is_gt (id_cmp f e) ≡ false) fs

put_below-first : (e : OpId) (fs : List OpId) → NoneAbove e fs → put_below e fs ≡ e ∷ fs
put_below-first e [] low = refl
put_below-first e (f ∷ fs) low = simp low.0 refl

put_below_after-first : (r e : OpId) (fs : List OpId) → NoneAbove e fs → put_below_after r e fs ≡ put_after r e fs
put_below_after-first r e [] low = refl
put_below_after-first r e (f ∷ fs) low =
    let again = put_below_after-first r e fs low.1 in
    let here = put_below-first e fs low.1 in
    elim (cases_Bool (same_id f r)) [ inl s ↦ simp (s, here, s) refl | inr s ↦ simp (s, again, s) refl ]

put_passing-first : (k : Key) (e : OpId) (fs : List OpId) → NoneAbove e fs → put_passing k e fs ≡ put_at k e fs
put_passing-first Head e fs low = put_below-first e fs low
put_passing-first (Elem r) e fs low = put_below_after-first r e fs low
put_passing-first (Name n) e fs low = refl

NoneAbove-put_after : (a r e : OpId) (fs : List OpId) → is_gt (id_cmp e a) ≡ false → NoneAbove a fs → NoneAbove a (put_after r e fs)
NoneAbove-put_after a r e [] h low = tt
NoneAbove-put_after a r e (f ∷ fs) h low = elim (cases_Bool (same_id f r)) [
  | inl s ↦ simp s (low.0, (h, low.1))
  | inr s ↦ simp s (low.0, NoneAbove-put_after a r e fs h low.1)
]

NoneAbove-put_at : (a : OpId) (k : Key) (e : OpId) (fs : List OpId) → is_gt (id_cmp e a) ≡ false → NoneAbove a fs → NoneAbove a (put_at k e fs)
NoneAbove-put_at a Head e fs h low = (h, low)
NoneAbove-put_at a (Elem r) e fs h low = NoneAbove-put_after a r e fs h low
NoneAbove-put_at a (Name n) e fs h low = low

low_for_all : (k : Key) (e : OpId) (fs : List OpId) (xs : List Operation) → AllByRecursion (λ y. is_gt (id_cmp e y.id) ≡ false) xs → AllByRecursion (λ y. NoneAbove y.id fs) xs → AllByRecursion (λ y. NoneAbove y.id (put_at k e fs)) xs
low_for_all k e fs [] up low = tt
low_for_all k e fs (y ∷ ys) up low = (NoneAbove-put_at y.id k e fs up.0 low.0, low_for_all k e fs ys up.1 low.1)

rising-put_at : (xs : List Operation) (fs : List OpId) → Rises operation_total xs → AllByRecursion (λ y. NoneAbove y.id fs) xs → put_in_turn fs xs ≡ fold (λ es x. put_at x.op.key x.id es) fs xs
rising-put_at [] fs rises low = refl
rising-put_at (x ∷ xs) fs rises low =
    ap (λ l. put_in_turn l xs) (put_passing-first x.op.key x.id fs low.0)
    ∙ rising-put_at xs (put_at x.op.key x.id fs) rises.1 (low_for_all x.op.key x.id fs xs rises.0 low.1)

none_above_nothing : (xs : List Operation) → AllByRecursion (λ y. NoneAbove y.id []) xs
none_above_nothing [] = tt
none_above_nothing (x ∷ xs) = (tt, none_above_nothing xs)

-- ---- the law

pub put_in_turn-elements : (A : List Operation) (o : ObjId) (xs : List Operation) → OneOperationPerId (into o A) → IsPermutation (into o A) xs → RefersBack xs → AllByRecursion IsAboveReference xs → put_in_turn [] xs ≡ elements A o
unfolding elements
put_in_turn-elements A o xs distinct h back above =
    put_in_turn-ascending xs [] back above
    ∙ ap (put_in_turn []) (ascending-permutation (into o A) xs distinct h)
    ∙ rising-put_at (ascending (into o A)) [] (Rises-sorted_by operation_total (into o A)) (none_above_nothing (ascending (into o A)))
    ∙ ap (fold (λ es x. put_at x.op.key x.id es) []) (sym (filter-sorted_by operation_total (inserts_into o) A))

pub order_is_free : OrderIsFree
order_is_free = put_in_turn-elements

-- ---- in ascending order, and onto what stands already

-- insertions in ascending order: no condition at all
pub put_in_turn-insertions : (A : List Operation) (o : ObjId) → put_in_turn [] (insertions A o) ≡ elements A o
unfolding elements
put_in_turn-insertions A o =
    ap (put_in_turn []) (filter-sorted_by operation_total (inserts_into o) A)
    ∙ rising-put_at (ascending (into o A)) [] (Rises-sorted_by operation_total (into o A)) (none_above_nothing (ascending (into o A)))
    ∙ ap (fold (λ es x. put_at x.op.key x.id es) []) (sym (filter-sorted_by operation_total (inserts_into o) A))

-- what rises refers back
refers_lower : (x : Operation) (ys : List Operation) → IsAboveReference x → AllByRecursion (λ y. is_gt (id_cmp x.id y.id) ≡ false) ys → AllByRecursion (λ y. x.op.key ≢ Elem y.id) ys
refers_lower x [] above low = tt
refers_lower x (y ∷ ys) above low = (
  (λ k. let less : id_cmp y.id x.id ≡ Less = subst (λ (j : Key). IsAbove x.id j) k above in
      let more : id_cmp x.id y.id ≡ Greater = id_total.antisymm x.id y.id ∙ ap ordering_reverse less in
      both_ways (is_gt (id_cmp x.id y.id)) low.0 (rw more)),
  refers_lower x ys above low.1,
)

pub RefersBack-rising : (xs : List Operation) → Rises operation_total xs → AllByRecursion IsAboveReference xs → RefersBack xs
RefersBack-rising [] rises above = tt
RefersBack-rising (x ∷ xs) rises above = (refers_lower x xs above.0 rises.0, RefersBack-rising xs rises.1 above.1)

AllByRecursion-append : {X : Type 0} (P : X → Type 0) (xs ys : List X) → AllByRecursion P xs → AllByRecursion P ys → AllByRecursion P (xs ++ ys)
AllByRecursion-append P [] ys a b = b
AllByRecursion-append P (x ∷ xs) ys a b = (a.0, AllByRecursion-append P xs ys a.1 b)

RefersBack-append : (xs ys : List Operation) → RefersBack xs → RefersBack ys → RefersNot xs ys → RefersBack (xs ++ ys)
RefersBack-append [] ys a b not = b
RefersBack-append (x ∷ xs) ys a b not = (AllByRecursion-append _ xs ys a.0 not.0, RefersBack-append xs ys a.1 b not.1)

-- more insertions, put in turn into the elements that stand, give the elements of all
pub put_in_turn-more : (A B : List Operation) (o : ObjId) (xs : List Operation) → OneOperationPerId (into o (A ++ B)) → IsPermutation (into o B) xs → RefersBack xs → RefersNot (into o A) xs → AllByRecursion IsAboveReference (into o A) → AllByRecursion IsAboveReference xs → put_in_turn (elements A o) xs ≡ elements (A ++ B) o
put_in_turn-more A B o xs distinct h back apart above_old above_new =
    let old : List Operation = ascending (into o A) in
    let stand : put_in_turn [] old ≡ elements A o = ap (put_in_turn []) (sym (filter-sorted_by operation_total (inserts_into o) A)) ∙ put_in_turn-insertions A o in
    let above : AllByRecursion IsAboveReference old = AllByRecursion-sorted_by IsAboveReference operation_cmp (into o A) above_old in
    let listed : IsPermutation (into o (A ++ B)) (old ++ xs) = rw (filter-append (inserts_into o) A B) (IsPermutation-append (into o A) old (into o B) xs (IsPermutation-sorted_by operation_cmp (into o A)) h) in
    ap (λ l. put_in_turn l xs) (sym stand)
    ∙ sym (fold-append (λ es x. put_passing x.op.key x.id es) [] old xs)
    ∙ put_in_turn-elements (A ++ B) o (old ++ xs) distinct listed
    (RefersBack-append old xs (RefersBack-rising old (Rises-sorted_by operation_total (into o A)) above) back (AllByRecursion-sorted_by _ operation_cmp (into o A) apart))
    (AllByRecursion-append IsAboveReference old xs above above_new)

-- directly behind the last is at the end
pub put_after-last : (fs : List OpId) (r e : OpId) → AllByRecursion (λ f. f ≢ r) fs → put_after r e (fs ++ r ∷ []) ≡ (fs ++ r ∷ []) ++ e ∷ []
put_after-last [] r e apart = let s = same_id_itself r in simp s refl
put_after-last (f ∷ fs) r e apart =
    let again = put_after-last fs r e apart.1 in
    let n = not_same f r apart.0 in
    simp n (ap (λ l. f ∷ l) again)
