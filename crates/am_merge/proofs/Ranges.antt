-- Where a sorted table has what is named.
use Rattle.std.proofs.Common.{ℕ, zero, suc, ◌≡◌, ◌+◌, ◌-◌, ◌<◌, ◌≤◌, List, [], ◌∷◌, length, get_or, ltb, map, filter, take, drop, Bool, true, false, not, ◌&&◌, refl, sym, ap, ◌∙◌, subst, inl, inr, Contains, arith, length-drop}
use Rattle.std.specs.Cmp.{IsTotalOrder}
use Rattle.std.specs.List.{AllWithin}
use Rattle.std.specs.List.Sorted.{IsNonDecreasingBy, IsPartitionedBy, IsPartitionPoint, IsSorted}
use Rattle.std.specs.Ordering.{is_eq, is_gt, is_le, is_lt, ordering_index, ordering_then}
use Rattle.std.specs.declared.cmp.Ordering.{Ordering}
use Rattle.std.specs.declared.cmp.Ordering.TheVariants.{Less, Equal, Greater}
use Rattle.std.proofs.Math.ListN.{get_or-map}
use Rattle.std.proofs.lemmas.Bool.{and_parts, both_ways, cases_lt}
use Rattle.std.proofs.lemmas.Cmp.{on_total, then_total, tied_itself}
use Rattle.std.proofs.lemmas.List.{get_or-drop, length-map}
use Rattle.std.proofs.lemmas.List.Sorted.{IsPartitionedBy-ltb, searchable_from_sorted}
use Rattle.am_types.specs.declared.OpId.{OpId}
use Rattle.am_types.specs.declared.ObjId.{ObjId}
use Rattle.am_types.specs.Order.{id_cmp, object_cmp, sorted_by}
use Rattle.am_types.specs.Same.{same_id, same_object}
use Rattle.am_types.proofs.Lists.{Contains-head, Contains-tail}
use Rattle.am_types.proofs.Orders.{id_total, same_id-true}
use Rattle.am_types.proofs.Rising.{AboveNone, IsSorted-rises, Rises, Rises-sorted_by, filter-sorted_by, sorted_by-rising}
use Rattle.am_types.proofs.SameLaws.{same_object-true}
use Rattle.am_laws.proofs.Ancestry.{Contains-from_filter}
use Rattle.am_merge.specs.Naming.{IsSeam, Named, is_named, key_cmp, named_cmp, named_key}
use Rattle.am_merge.proofs.Lists.{filter-filter, filter-map, filter_within}
use Rattle.am_merge.proofs.Places.{object_total}

pub key_total : IsTotalOrder key_cmp
key_total = then_total (on_total (λ (k : ObjId × OpId). k.1) id_total) (on_total (λ (k : ObjId × OpId). k.0) object_total)

pub named_total : IsTotalOrder named_cmp
named_total = on_total named_key key_total

-- ---- what is less comes first

lt_index : (r : Ordering) → is_lt r ≡ ltb (ordering_index r) 1
lt_index Less = refl
lt_index Equal = refl
lt_index Greater = refl

le_index : (r : Ordering) → is_le r ≡ ltb (ordering_index r) 2
le_index Less = refl
le_index Equal = refl
le_index Greater = refl

pub lt_le : (r : Ordering) → is_lt r ≡ true → is_le r ≡ true
lt_le Less t = refl
lt_le Equal t = refl
lt_le Greater t = t

eq_parts : (r : Ordering) → (not (is_lt r) && is_le r) ≡ is_eq r
eq_parts Less = refl
eq_parts Equal = refl
eq_parts Greater = refl

eq_then : (r s : Ordering) → is_eq (ordering_then r s) ≡ (is_eq r && is_eq s)
eq_then Less s = refl
eq_then Equal s = refl
eq_then Greater s = refl

and_turned : (a b : Bool) → (a && b) ≡ (b && a)
and_turned true true = refl
and_turned true false = refl
and_turned false true = refl
and_turned false false = refl

module _ {X : Type 0} (f : X → Named) (k : ObjId × OpId) where
  abbrev less : X → Bool
  less x = is_lt (key_cmp (named_key (f x)) k)

  abbrev up_to : X → Bool
  up_to x = is_le (key_cmp (named_key (f x)) k)

  abbrev rank : X → ℕ
  rank x = ordering_index (key_cmp (named_key (f x)) k)

  rising : (xs : List X) (ys : List Named) → map f xs ≡ sorted_by named_cmp ys → IsNonDecreasingBy rank xs
  rising xs ys e i j d low high =
      let up : IsNonDecreasingBy (λ n. ordering_index (key_cmp (named_key n) k)) (map f xs) =
      searchable_from_sorted key_total named_key (map f xs) k (subst (IsSorted named_cmp) (sym e) (IsSorted-rises named_total (sorted_by named_cmp ys) (Rises-sorted_by named_total ys))) in
      let h = up i j (f d) low (simp length-map high) in
      subst (λ m. m ≤ rank (get_or xs j d)) (ap (λ n. ordering_index (key_cmp (named_key n) k)) (get_or-map f xs i d))
      (subst (λ m. ordering_index (key_cmp (named_key (get_or (map f xs) i (f d))) k) ≤ m) (ap (λ n. ordering_index (key_cmp (named_key n) k)) (get_or-map f xs j d)) h)

  pub parted_less : (xs : List X) (ys : List Named) → map f xs ≡ sorted_by named_cmp ys → IsPartitionedBy (λ x. is_lt (key_cmp (named_key (f x)) k)) xs
  parted_less xs ys e = subst (λ (p : X → Bool). IsPartitionedBy p xs) (λ i x. sym (lt_index (key_cmp (named_key (f x)) k)) i) (IsPartitionedBy-ltb rank xs 1 (rising xs ys e))

  pub parted_up_to : (xs : List X) (ys : List Named) → map f xs ≡ sorted_by named_cmp ys → IsPartitionedBy (λ x. is_le (key_cmp (named_key (f x)) k)) xs
  parted_up_to xs ys e = subst (λ (p : X → Bool). IsPartitionedBy p xs) (λ i x. sym (le_index (key_cmp (named_key (f x)) k)) i) (IsPartitionedBy-ltb rank xs 2 (rising xs ys e))

-- ---- a place with the test right before it, and not at it

false_unless : (b : Bool) → (b ≡ true → ⊥) → b ≡ false
false_unless true f = absurd (f refl)
false_unless false f = refl

module _ {X : Type 0} (p : X → Bool) (xs : List X) (k : ℕ) (parted : IsPartitionedBy p xs) where
  behind : ((d : X) → k < length xs → p (get_or xs k d) ≡ false) → AllWithin (λ x. p x ≡ false) xs k (length xs)
  behind h j d low high = false_unless (p (get_or xs j d)) (λ t. both_ways (p (get_or xs k d)) (h d (omega arith)) (parted k j d low high t))

  pub at_seam : IsSeam p xs k → IsPartitionPoint (λ x. p x ≡ true) (λ x. p x ≡ false) xs k
  at_seam s = (λ j d low high. parted j (k - 1) d (omega arith) (let m = s.0 in omega arith) (s.1 (k - 1) d (omega arith)), behind s.2)

  -- where what is less ends, and each from there on holds
  pub at_end : (r : X → Bool) (first : ℕ) → ((x : X) → r x ≡ true → p x ≡ true) → IsPartitionPoint (λ x. r x ≡ true) (λ x. r x ≡ false) xs first
      → AllWithin (λ x. p x ≡ true) xs first k → ((d : X) → k < length xs → p (get_or xs k d) ≡ false) → IsPartitionPoint (λ x. p x ≡ true) (λ x. p x ≡ false) xs k
  at_end r first up low within h = (all, behind h)
    where
      all : AllWithin (λ x. p x ≡ true) xs 0 k
      all j d a b = elim (cases_lt j first) [
        | inl l ↦ up (get_or xs j d) (low.0 j d a l)
        | inr g ↦ within j d g b
      ]

-- what holds at a place and behind it
pub within_first : {X : Type 0} (p : X → Bool) (xs : List X) (first last : ℕ) → ((d : X) → p (get_or xs first d) ≡ true)
    → AllWithin (λ x. p x ≡ true) xs (first + 1) last → AllWithin (λ x. p x ≡ true) xs first last
within_first p xs first last here within j d a b = elim (cases_lt first j) [
  | inl l ↦ within j d (omega arith) b
  | inr g ↦
      let e : first ≡ j = omega arith in
      subst (λ k. p (get_or xs k d) ≡ true) e (here d)
]

-- ---- cut where a test fails

abbrev Parts : {X : Type 0} → (X → Bool) → List X → ℕ → Type 0
Parts {X} p xs i = (take i xs ≡ filter p xs) × (drop i xs ≡ filter (λ x. not (p x)) xs)

cut_at : {X : Type 0} (p : X → Bool) (xs : List X) (i : ℕ) → i ≤ length xs → IsPartitionPoint (λ x. p x ≡ true) (λ x. p x ≡ false) xs i → Parts p xs i
cut_at p [] zero l h = (refl, refl)
cut_at p [] (suc i) l h = absurd (omega arith)
cut_at p (x ∷ xs) zero l h =
    let f : p x ≡ false = h.1 0 x (omega arith) (omega arith) in
    let again : Parts p xs 0 = cut_at p xs 0 (omega arith) (λ k d a b. absurd (omega arith), λ k d a b. h.1 (suc k) d (omega arith) (omega arith)) in
    simp f (again.0, ap (λ l. x ∷ l) again.1)
cut_at p (x ∷ xs) (suc i) l h =
    let t : p x ≡ true = h.0 0 x (omega arith) (omega arith) in
    let again : Parts p xs i = cut_at p xs i (omega arith) (λ k d a b. h.0 (suc k) d (omega arith) (omega arith), λ k d a b. h.1 (suc k) d (omega arith) (omega arith)) in
    simp t (ap (λ l. x ∷ l) again.0, again.1)

-- ---- what ties stays in order

is_named-key : (o : ObjId) (i : OpId) (n : Named) → is_named o i n ≡ true → named_key n ≡ (o, i)
is_named-key o i n t =
    let p = and_parts (same_object n.obj o) (same_id n.id i) t in
    λ j. (same_object-true n.obj o p.0 j, same_id-true n.id i p.1 j)

ties_rise : (o : ObjId) (i : OpId) (xs : List Named) → Rises named_total (filter (is_named o i) xs)
ties_rise o i xs = go (filter (is_named o i) xs) (λ n c. (Contains-from_filter (is_named o i) xs n c).1)
  where
    same : (m n : Named) → is_named o i m ≡ true → is_named o i n ≡ true → is_gt (named_cmp m n) ≡ false
    same m n tm tn = (λ j. is_gt (key_cmp (is_named-key o i m tm j) (is_named-key o i n tn j))) ∙ ap is_gt (tied_itself key_total (o, i))

    none : (m : Named) (zs : List Named) → is_named o i m ≡ true → ((n : Named) → Contains zs n → is_named o i n ≡ true) → AboveNone named_total m zs
    none m [] t h = tt
    none m (n ∷ zs) t h = (same m n t (h n (Contains-head n zs)), none m zs t (λ k c. h k (Contains-tail n zs k c)))

    go : (zs : List Named) → ((n : Named) → Contains zs n → is_named o i n ≡ true) → Rises named_total zs
    go [] h = tt
    go (n ∷ zs) h = (none n zs (h n (Contains-head n zs)) (λ k c. h k (Contains-tail n zs k c)), go zs (λ k c. h k (Contains-tail n zs k c)))

pub named_sorted : (o : ObjId) (i : OpId) (ys : List Named) → filter (is_named o i) (sorted_by named_cmp ys) ≡ filter (is_named o i) ys
named_sorted o i ys = filter-sorted_by named_total (is_named o i) ys ∙ sorted_by-rising named_total (filter (is_named o i) ys) (ties_rise o i ys)

-- ---- the range

module _ {X : Type 0} (f : X → Named) (o : ObjId) (i : OpId) where
  abbrev k : ObjId × OpId
  k = (o, i)

  abbrev p : X → Bool
  p x = is_lt (key_cmp (named_key (f x)) (o, i))

  abbrev q : X → Bool
  q x = is_le (key_cmp (named_key (f x)) (o, i))

  both : (x : X) → (not (p x) && q x) ≡ is_named o i (f x)
  both x = eq_parts (key_cmp (named_key (f x)) k) ∙ eq_then (id_cmp (f x).id i) (object_cmp (f x).obj o) ∙ and_turned (is_eq (id_cmp (f x).id i)) (is_eq (object_cmp (f x).obj o))

  drop_at : (xs : List X) (a j : ℕ) (d : X) → get_or (drop a xs) j d ≡ get_or xs (a + j) d
  drop_at xs a j d = get_or-drop a xs j d

  pub range : (xs : List X) (ys : List Named) (a b : ℕ) → a ≤ length xs → b ≤ length xs → map f xs ≡ sorted_by named_cmp ys
      → IsPartitionPoint (λ x. p x ≡ true) (λ x. p x ≡ false) xs a → IsPartitionPoint (λ x. q x ≡ true) (λ x. q x ≡ false) xs b
      → (a ≤ b) × (map f (take (b - a) (drop a xs)) ≡ filter (is_named o i) ys)
  range xs ys a b la lb e ha hb = (ordered, named)
    where
      ordered : a ≤ b
      ordered = elim (cases_lt b a) [
        | inl l ↦ absurd (clash xs b l ha.0 hb.1 la)
        | inr h ↦ h
      ]
        where
          clash : (xs : List X) (b : ℕ) → b < a → AllWithin (λ x. p x ≡ true) xs 0 a → AllWithin (λ x. q x ≡ false) xs b (length xs) → a ≤ length xs → ⊥
          clash [] b l h g la = omega arith
          clash (x ∷ xs) b l h g la =
              let z = get_or (x ∷ xs) b x in
              both_ways (q z) (g b x (omega arith) (omega arith)) (lt_le (key_cmp (named_key (f z)) k) (h b x (omega arith) l))

      below : Parts p xs a
      below = cut_at p xs a la ha

      rest_point : IsPartitionPoint (λ x. q x ≡ true) (λ x. q x ≡ false) (drop a xs) (b - a)
      rest_point = (
        λ j d l h. subst (λ x. q x ≡ true) (sym (drop_at xs a j d)) (hb.0 (a + j) d (omega arith) (let m = ordered in omega arith)),
        λ j d l h. subst (λ x. q x ≡ false) (sym (drop_at xs a j d)) (hb.1 (a + j) d (let m = ordered in omega arith) (let m = simp length-drop at h in omega arith)),
      )

      named : map f (take (b - a) (drop a xs)) ≡ filter (is_named o i) ys
      named =
          ap (map f) (
          (cut_at q (drop a xs) (b - a) (simp length-drop (omega arith)) rest_point).0
          ∙ ap (filter q) below.1
          ∙ filter-filter q (λ x. not (p x)) xs
          ∙ filter_within (λ x. not (p x) && q x) (λ x. is_named o i (f x)) xs (λ x c. both x))
          ∙ sym (filter-map (is_named o i) f xs)
          ∙ ap (filter (is_named o i)) e
          ∙ named_sorted o i ys
