-- What waits when the walk begins, object by object: what stands at names, then the fronts of lists.
use Rattle.std.proofs.Common.{ℕ, zero, suc, ◌≡◌, ◌≢◌, List, [], ◌∷◌, ◌++◌, get_or, map, filter, Bool, true, false, not, ◌&&◌, refl, sym, ap, ◌∙◌, subst, inl, inr, AllPairs, Contains, arith}
use Rattle.std.specs.Cmp.{IsTotalOrder}
use Rattle.std.specs.List.{flat_map}
use Rattle.std.specs.Ordering.{is_gt, ordering_then, ordering_reverse}
use Rattle.std.specs.declared.cmp.Ordering.{Ordering}
use Rattle.std.specs.declared.cmp.Ordering.TheVariants.{Less, Equal, Greater}
use Rattle.std.proofs.lemmas.Bool.{and_from, and_parts, both_ways, cases_Bool}
use Rattle.std.proofs.lemmas.Cmp.{nat_list_cmp_total, on_total, tied_itself}
use Rattle.std.proofs.lemmas.List.{append-nil}
use Rattle.std.proofs.lemmas.List.Concat.{flat_map-append}
use Rattle.std.proofs.lemmas.List.Elements.{All-contains, All-from_recursion, Contains-append_cases, Contains-append_left, Contains-append_right}
use Rattle.std.proofs.lemmas.List.Sorted.{Contains-permutation, IsPermutation-sym}
use Rattle.am_types.specs.declared.ObjId.{ObjId}
use Rattle.am_types.specs.declared.Key.{Key}
use Rattle.am_types.specs.declared.Key.TheVariants.{Name, Head, Elem}
use Rattle.am_types.specs.Order.{bytes_cmp, id_cmp, object_cmp, put_in_order, sorted_by}
use Rattle.am_types.specs.Same.{same_object, same_key}
use Rattle.am_types.specs.Operations.{Operation, operation_cmp, ascending, slot}
use Rattle.am_types.specs.Elements.{insertions, inserts_into}
use Rattle.am_types.specs.Rows.{row_of}
use Rattle.am_types.proofs.Lists.{all_of, Contains-head, Contains-tail}
use Rattle.am_types.proofs.Permuted.{operation_total}
use Rattle.am_types.proofs.Rising.{AboveNone, Rises, Rises-sorted_by, filter-sorted_by, sorted_by-rising}
use Rattle.am_types.proofs.SameLaws.{same_object-true, same_key-true}
use Rattle.am_laws.proofs.Ancestry.{Contains-from_filter}
use Rattle.am_laws.proofs.DistinctOperations.{all_pairs_append}
use Rattle.am_merge.specs.Turns.{children, named_by, pushed}
use Rattle.am_merge.specs.Walk.{beginning, by_spot, is_elem, name_in, spot_of, spot_cmp, starts}
use Rattle.am_merge.proofs.Grouped.{flat_map-map}
use Rattle.am_merge.proofs.Hanging.{pushed-more}
use Rattle.am_merge.proofs.Lists.{Contains-map, filter-filter, filter_within, same_answers}
use Rattle.am_merge.proofs.NameWalk.{operation_at_name}
use Rattle.am_merge.proofs.ObjectWalk.{front, heads}
use Rattle.am_merge.proofs.Once.{Once, first_alone, once_cons, once_tail}
use Rattle.am_merge.proofs.Parts.{flat_map_within, sorted_in_parts}
use Rattle.am_merge.proofs.Places.{object_total, same_key_itself}
use Rattle.am_merge.proofs.SlotLaws.{all_pairs_map, from_map}
use Rattle.am_merge.proofs.SlotRows.{ops_in, shows_in}
use Rattle.am_merge.proofs.Sorts.{sorted_by-agree, Contains-from_sorted_by}
use Rattle.am_merge.proofs.Stack.{other_way, pushed_permutes}
use Rattle.am_merge.proofs.WalkOrder.{greater_name, insertions_by_id, name_first, object_after, spot_total}
use Rattle.am_merge.proofs.Within.{stays}

pub by_total : IsTotalOrder by_spot
by_total = on_total spot_of spot_total

-- what is said of operations: insertions have no names, and what names the front inserts
pub record IsProper (x : Operation) : Type 0 where
  pub at_name : (n : List ℕ) → x.op.key ≡ Name n → x.op.insert ≡ false
  pub at_front : x.op.key ≡ Head → x.op.insert ≡ true
  pub shown : x.op.insert ≡ true → stays x ≡ true

-- ---- at a name

same_names : (o : ObjId) (n : List ℕ) (x y : Operation) → x.op.obj ≡ o → x.op.insert ≡ false → x.op.key ≡ Name n → y.op.obj ≡ o → y.op.insert ≡ false → y.op.key ≡ Name n → by_spot x y ≡ operation_cmp x y
same_names o n x y ox bx kx oy by' ky =
    (λ i. spot_cmp (record { obj = ox i; insert = bx i; key = kx i; id = x.id }) (record { obj = oy i; insert = by' i; key = ky i; id = y.id }))
    ∙ ap (λ r. ordering_then r (ordering_then (bytes_cmp n n) (ordering_then (id_cmp x.id y.id) Equal))) (tied_itself object_total o)
    ∙ ap (λ r. ordering_then r (ordering_then (id_cmp x.id y.id) Equal)) (tied_itself nat_list_cmp_total n)
    ∙ then_equal (id_cmp x.id y.id)
  where
    then_equal : (r : Ordering) → ordering_then r Equal ≡ r
    then_equal Less = refl
    then_equal Equal = refl
    then_equal Greater = refl

-- ---- at the front

put_last : (x : Operation) (ys : List Operation) → ((y : Operation) → Contains ys y → is_gt (by_spot x y) ≡ true) → put_in_order by_spot x ys ≡ ys ++ x ∷ []
put_last x [] h = refl
put_last x (y ∷ ys) h = let t = h y (Contains-head y ys) in simp t (ap (λ l. y ∷ l) (put_last x ys (λ z c. h z (Contains-tail y ys z c))))

module _ (o : ObjId) where
  record IsHead (x : Operation) : Type 0 where
    obj : x.op.obj ≡ o
    inserts : x.op.insert ≡ true
    key : x.op.key ≡ Head

  -- insertions of one object in ascending id are sorted the other way round
  falls_back : (xs : List Operation) → Rises operation_total xs → Once (map (λ (x : Operation). x.id) xs) → ((x : Operation) → Contains xs x → IsHead x) → sorted_by by_spot xs ≡ pushed xs []
  falls_back [] r once all = refl
  falls_back (x ∷ xs) r once all =
      let again : sorted_by by_spot xs ≡ pushed xs [] = falls_back xs r.1 (once_tail x.id (map (λ (y : Operation). y.id) xs) once) (λ y c. all y (Contains-tail x xs y c)) in
      ap (put_in_order by_spot x) again
      ∙ put_last x (pushed xs []) (λ y c. above y (from_pushed y c))
      ∙ sym (pushed-more xs [] (x ∷ []))
    where
      from_pushed : (y : Operation) → Contains (pushed xs []) y → Contains xs y
      from_pushed y c = elim (Contains-append_cases xs [] y (Contains-permutation (pushed xs []) (xs ++ []) y (IsPermutation-sym (xs ++ []) (pushed xs []) (pushed_permutes xs [])) c)) [
        | inl d ↦ d
        | inr d ↦ absurd (omega (arith, d.1))
      ]

      above : (y : Operation) → Contains xs y → is_gt (by_spot x y) ≡ true
      above y c =
          let a = all x (Contains-head x xs) in
          let b = all y (Contains-tail x xs y c) in
          let apart : x.id ≢ y.id = λ e. first_alone x.id (map (λ (z : Operation). z.id) xs) once (subst (Contains (map (λ (z : Operation). z.id) xs)) (sym e) (Contains-map (λ (z : Operation). z.id) xs y c)) in
          let low : is_gt (id_cmp x.id y.id) ≡ false = All-contains (λ w. is_gt (operation_cmp x w) ≡ false) xs y (All-from_recursion (λ w. is_gt (operation_cmp x w) ≡ false) xs r.0) c in
          insertions_by_id o (row_of [] x) y a.obj b.obj a.inserts (ap name_in a.key) b.inserts (ap name_in b.key) ∙ other_way x.id y.id apart low

pub rises_filtered : (p : Operation → Bool) (xs : List Operation) → Rises operation_total xs → Rises operation_total (filter p xs)
rises_filtered p [] r = tt
rises_filtered p (x ∷ xs) r = elim (cases_Bool (p x)) [
  | inl t ↦ simp t (none x xs r.0, rises_filtered p xs r.1)
  | inr f ↦ simp f (rises_filtered p xs r.1)
]
  where
    none : (x : Operation) (xs : List Operation) → AboveNone operation_total x xs → AboveNone operation_total x (filter p xs)
    none x [] a = tt
    none x (y ∷ xs) a = elim (cases_Bool (p y)) [ inl t ↦ simp t (a.0, none x xs a.1) | inr f ↦ simp f (none x xs a.1) ]

once_filtered : (p : Operation → Bool) (xs : List Operation) → Once (map (λ (x : Operation). x.id) xs) → Once (map (λ (x : Operation). x.id) (filter p xs))
once_filtered p [] once = once
once_filtered p (x ∷ xs) once =
    let again = once_filtered p xs (once_tail x.id (map (λ (y : Operation). y.id) xs) once) in
    elim (cases_Bool (p x)) [
      | inl t ↦ simp t (once_cons x.id (map (λ (y : Operation). y.id) (filter p xs))
          (λ c. let f = from_map (λ (y : Operation). y.id) (filter p xs) x.id c in
          first_alone x.id (map (λ (y : Operation). y.id) xs) once (subst (Contains (map (λ (y : Operation). y.id) xs)) f.2 (Contains-map (λ (y : Operation). y.id) xs f.0 (Contains-from_filter p xs f.0 f.1).0)))
          again)
      | inr f ↦ simp f again
    ]

-- ---- all that waits

reversed : (r s : Ordering) → s ≡ ordering_reverse r → r ≡ Less → s ≡ Greater
reversed r s e f = rw (e, f) refl

pub object_later : (a b : ObjId) → object_cmp a b ≡ Less → object_cmp b a ≡ Greater
object_later a b e = reversed (object_cmp a b) (object_cmp b a) (object_total.antisymm b a) e

name_later : (a b : List ℕ) → bytes_cmp a b ≡ Less → bytes_cmp b a ≡ Greater
name_later a b e = reversed (bytes_cmp a b) (bytes_cmp b a) (nat_list_cmp_total.antisymm b a) e

module _ (N : List Operation) (os : List ObjId) (ns : List (List ℕ))
    (os_ascend : AllPairs (λ a b. object_cmp a b ≡ Less) os) (ns_ascend : AllPairs (λ a b. bytes_cmp a b ≡ Less) ns)
    (once : Once (map (λ x. x.id) (ascending N)))
    (proper : (x : Operation) → Contains N x → IsProper x)
    (objects : (x : Operation) → Contains N x → Contains os x.op.obj)
    (names : (x : Operation) → Contains N x → (n : List ℕ) → x.op.key ≡ Name n → Contains ns n) where
  abbrev A : List Operation
  A = ascending N

  from_A : (x : Operation) → Contains (ascending N) x → Contains N x
  from_A x c = Contains-from_sorted_by operation_cmp N x c

  abbrev in_object : ObjId → Operation → Bool
  in_object o x = same_object x.op.obj o

  abbrev at_key : Key → Operation → Bool
  at_key k x = same_key x.op.key k

  same_object_itself : (o : ObjId) → same_object o o ≡ true
  same_object_itself o = rw (tied_itself object_total o) refl

  -- operations of one object after those of another
  objects_apart : (o p : ObjId) (x y : Operation) → object_cmp o p ≡ Less → in_object o x ≡ true → in_object p y ≡ true → is_gt (by_spot y x) ≡ true
  objects_apart o p x y less px py =
      let ex = same_object-true x.op.obj o px in
      let ey = same_object-true y.op.obj p py in
      object_after (row_of [] y) x ((λ t. object_cmp (ey t) (ex t)) ∙ object_later o p less)

  by_objects : sorted_by by_spot (filter starts A) ≡ flat_map (λ o. sorted_by by_spot (filter (in_object o) (filter starts A))) os
  by_objects =
      sorted_in_parts by_total in_object (λ x. Contains N x) os (filter starts A)
      (λ i j d p q x y cx cy px py. objects_apart (get_or os i d) (get_or os j d) x y (os_ascend i j d p q) px py)
      (λ x c.
      let cx = from_A x (Contains-from_filter starts A x c).0 in
      (cx, (x.op.obj, objects x cx, same_object_itself x.op.obj)))

  module _ (o : ObjId) where
    abbrev ks : List Key
    ks = map Name ns ++ Head ∷ []

    abbrev mine : List Operation
    mine = filter (in_object o) (filter starts A)

    record IsMine (x : Operation) : Type 0 where
      among : Contains N x
      obj : x.op.obj ≡ o
      starts_it : starts x ≡ true

    is_mine : (x : Operation) → Contains mine x → IsMine x
    is_mine x c =
        let f = Contains-from_filter (in_object o) (filter starts A) x c in
        let g = Contains-from_filter starts A x f.0 in
        record { among = from_A x g.0; obj = same_object-true x.op.obj o f.1; starts_it = g.1 }

    no_key : (x : Operation) → IsMine x → (k : Key) → x.op.key ≡ k → (i : Key) × Contains ks i × (at_key i x ≡ true)
    no_key x m (Name n) e = (Name n, Contains-append_left (map Name ns) (Head ∷ []) (Name n) (Contains-map Name ns n (names x m.among n e)), ap (λ k. same_key k (Name n)) e ∙ same_key_itself (Name n))
    no_key x m Head e = (Head, Contains-append_right (map Name ns) (Head ∷ []) Head (Contains-head Head []), ap (λ k. same_key k Head) e ∙ same_key_itself Head)
    no_key x m (Elem i) e = absurd (both_ways (starts x) (ap (λ k. not (is_elem k) && stays x) e) m.starts_it)

    name_before : (a b : List ℕ) → bytes_cmp a b ≡ Less → (x y : Operation) → IsMine x → IsMine y → at_key (Name a) x ≡ true → at_key (Name b) y ≡ true → is_gt (by_spot y x) ≡ true
    name_before a b less x y mx my px py =
        let kx = same_key-true x.op.key (Name a) px in
        let ky = same_key-true y.op.key (Name b) py in
        greater_name o (row_of [] y) x my.obj mx.obj b a (name_later a b less) ((proper y my.among).at_name b ky) ky ((proper x mx.among).at_name a kx) kx

    front_after : (a : List ℕ) (x y : Operation) → IsMine x → IsMine y → at_key (Name a) x ≡ true → at_key Head y ≡ true → is_gt (by_spot y x) ≡ true
    front_after a x y mx my px py =
        let kx = same_key-true x.op.key (Name a) px in
        let ky = same_key-true y.op.key Head py in
        name_first o (row_of [] y) x my.obj mx.obj a ((proper y my.among).at_front ky) ((proper x mx.among).at_name a kx) kx

    abbrev Below : Key → Key → Type 0
    Below j k = (x y : Operation) → IsMine x → IsMine y → at_key j x ≡ true → at_key k y ≡ true → is_gt (by_spot y x) ≡ true

    alone : AllPairs Below (Head ∷ [])
    alone i j d p q = absurd (omega arith)

    keys_apart : AllPairs Below ks
    keys_apart =
        all_pairs_append Below (map Name ns) (Head ∷ [])
        (all_pairs_map Name Below ns (λ i j d p q. name_before (get_or ns i d) (get_or ns j d) (ns_ascend i j d p q)))
        alone
        (λ j k cj ck.
        let a = from_map Name ns j cj in
        let last : k ≡ Head = only k ck in
        subst (λ j. Below j k) a.2 (subst (Below (Name a.0)) (sym last) (front_after a.0)))
      where
        only : (k : Key) → Contains (Head ∷ []) k → k ≡ Head
        only k (zero, l, e) = sym e
        only k (suc i, l, e) = absurd (omega (arith, l))

    by_keys : sorted_by by_spot mine ≡ flat_map (λ k. sorted_by by_spot (filter (at_key k) mine)) ks
    by_keys = sorted_in_parts by_total at_key IsMine ks mine keys_apart (λ x c. let m = is_mine x c in (m, no_key x m x.op.key refl))

    -- ---- at one name

    joined : (k : Key) → filter (at_key k) mine ≡ filter (λ x. (starts x && in_object o x) && at_key k x) A
    joined k = ap (filter (at_key k)) (filter-filter (in_object o) starts A) ∙ filter-filter (at_key k) (λ x. starts x && in_object o x) A

    at_this_name : (n : List ℕ) (x : Operation) → Contains A x → ((starts x && in_object o x) && at_key (Name n) x) ≡ shows_in (o, Name n) x
    at_this_name n x c = same_answers _ _
        (λ t.
        let p = and_parts (starts x && in_object o x) (at_key (Name n) x) t in
        let q = and_parts (starts x) (in_object o x) p.0 in
        let r = and_parts (not (is_elem x.op.key)) (stays x) q.0 in
        let k = same_key-true x.op.key (Name n) p.1 in
        let f = (proper x (from_A x c)).at_name n k in
        let is : slot x ≡ x.op.key = simp f refl in
        and_from (stays x) (same_object x.op.obj o && same_key (slot x) (Name n)) r.1
        (and_from (same_object x.op.obj o) (same_key (slot x) (Name n)) q.1 (ap (λ k. same_key k (Name n)) is ∙ p.1)))
        (λ t.
        let a = operation_at_name o n x t in
        let s = and_parts (stays x) (same_object x.op.obj o && same_key (slot x) (Name n)) t in
        and_from (starts x && in_object o x) (at_key (Name n) x)
        (and_from (starts x) (in_object o x) (and_from (not (is_elem x.op.key)) (stays x) (ap (λ k. not (is_elem k)) a.key) s.0) (and_parts (same_object x.op.obj o) (same_key (slot x) (Name n)) s.1).0)
        (ap (λ k. same_key k (Name n)) a.key ∙ same_key_itself (Name n)))

    name_part : (n : List ℕ) → sorted_by by_spot (filter (at_key (Name n)) mine) ≡ ops_in N (o, Name n)
    name_part n =
        let zs : List Operation = ops_in N (o, Name n) in
        ap (sorted_by by_spot) (joined (Name n) ∙ filter_within (λ x. (starts x && in_object o x) && at_key (Name n) x) (shows_in (o, Name n)) A (at_this_name n))
        ∙ sorted_by-agree by_spot operation_cmp (λ x. shows_in (o, Name n) x ≡ true)
        (λ x y px py. let a = operation_at_name o n x px in let b = operation_at_name o n y py in same_names o n x y a.obj a.plain a.key b.obj b.plain b.key)
        zs (all_of (λ x. shows_in (o, Name n) x ≡ true) zs (λ x c. (Contains-from_filter (shows_in (o, Name n)) A x c).1))
        ∙ ap (sorted_by operation_cmp) (filter-sorted_by operation_total (shows_in (o, Name n)) N)
        ∙ sorted_by-rising operation_total (ascending (filter (shows_in (o, Name n)) N)) (Rises-sorted_by operation_total (filter (shows_in (o, Name n)) N))
        ∙ sym (filter-sorted_by operation_total (shows_in (o, Name n)) N)

    -- ---- at the front

    at_the_front : (x : Operation) → Contains A x → ((starts x && in_object o x) && at_key Head x) ≡ (inserts_into o x && named_by Head x)
    at_the_front x c = same_answers _ _
        (λ t.
        let p = and_parts (starts x && in_object o x) (at_key Head x) t in
        let q = and_parts (starts x) (in_object o x) p.0 in
        and_from (inserts_into o x) (named_by Head x) (and_from x.op.insert (same_object x.op.obj o) ((proper x (from_A x c)).at_front (same_key-true x.op.key Head p.1)) q.1) p.1)
        (λ t.
        let p = and_parts (inserts_into o x) (named_by Head x) t in
        let q = and_parts x.op.insert (same_object x.op.obj o) p.0 in
        let k = same_key-true x.op.key Head p.1 in
        and_from (starts x && in_object o x) (at_key Head x)
        (and_from (starts x) (in_object o x) (and_from (not (is_elem x.op.key)) (stays x) (ap (λ k. not (is_elem k)) k) ((proper x (from_A x c)).shown q.0)) q.1) p.1)

    abbrev kin : List Operation
    kin = children Head (insertions N o)

    kin_are : filter (at_key Head) mine ≡ kin
    kin_are =
        joined Head ∙ filter_within (λ x. (starts x && in_object o x) && at_key Head x) (λ x. inserts_into o x && named_by Head x) A at_the_front
        ∙ sym (filter-filter (named_by Head) (inserts_into o) A)

    is_head : (x : Operation) → Contains kin x → IsHead o x
    is_head x c =
        let f = Contains-from_filter (named_by Head) (insertions N o) x c in
        let g = Contains-from_filter (inserts_into o) A x f.0 in
        let p = and_parts x.op.insert (same_object x.op.obj o) g.1 in
        record { obj = same_object-true x.op.obj o p.1; inserts = p.0; key = same_key-true x.op.key Head f.1 }

    front_part : sorted_by by_spot (filter (at_key Head) mine) ≡ heads N o
    front_part = ap (sorted_by by_spot) kin_are ∙ falls_back o kin kin_rises kin_once is_head
      where
        kin_rises : Rises operation_total kin
        kin_rises = rises_filtered (named_by Head) (insertions N o) (rises_filtered (inserts_into o) A (Rises-sorted_by operation_total N))

        kin_once : Once (map (λ (x : Operation). x.id) kin)
        kin_once = once_filtered (named_by Head) (insertions N o) (once_filtered (inserts_into o) A once)

    in_order : sorted_by by_spot mine ≡ front N ns o
    in_order =
        by_keys
        ∙ flat_map-append (λ k. sorted_by by_spot (filter (at_key k) mine)) (map Name ns) (Head ∷ [])
        ∙ (λ i. (flat_map-map (λ k. sorted_by by_spot (filter (at_key k) mine)) Name ns
        ∙ flat_map_within (λ n. sorted_by by_spot (filter (at_key (Name n)) mine)) (λ n. ops_in N (o, Name n)) ns (λ n c. name_part n)) i
        ++ (append-nil (sorted_by by_spot (filter (at_key Head) mine)) ∙ front_part) i)

  pub beginning_is : beginning (ascending N) ≡ flat_map (front N ns) os
  beginning_is = by_objects ∙ flat_map_within (λ o. sorted_by by_spot (filter (in_object o) (filter starts A))) (front N ns) os (λ o c. in_order o)
