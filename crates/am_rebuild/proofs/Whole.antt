-- The operations of one actor between two counters are read off the sorted mentions.
use Rattle.std.proofs.Common.{ℕ, ◌≡◌, ◌+◌, ◌<◌, List, [], ◌∷◌, length, map, filter, Bool, true, false, not, ◌&&◌, refl, sym, ap, ◌∙◌, subst, inl, inr, arith, Contains}
use Rattle.std.specs.List.{dedup, filter_map, flat_map, AllByRecursion}
use Rattle.std.specs.List.Sorted.{IsSorted, IsStrictlySortedBy, ties}
use Rattle.std.specs.Ordering.{on, is_lt, is_eq, eq_by_cmp, nat_cmp, ordering_reverse, ordering_then}
use Rattle.std.specs.declared.cmp.Ordering.{Ordering}
use Rattle.std.specs.declared.cmp.Ordering.TheVariants.{Less, Equal, Greater}
use Rattle.std.proofs.lemmas.Bool.{cases_Bool, and_parts}
use Rattle.std.proofs.lemmas.Cmp.{eq_by_cmp_equiv, tied_itself, nat_list_cmp_total}
use Rattle.std.proofs.lemmas.List.{get_or-map, length-map}
use Rattle.std.proofs.lemmas.List.Elements.{filter_agree}
use Rattle.std.proofs.lemmas.List.Kept.{Contains-dedup, Contains-from_dedup, IsStrictlySortedBy-dedup, IsStrictlySortedBy-filter}
use Rattle.std.proofs.lemmas.Map.Views.{tells_apart}
use Rattle.am_types.specs.declared.OpId.{OpId}
use Rattle.am_types.specs.declared.Row.{Row}
use Rattle.am_types.specs.Order.{id_cmp, bytes_cmp}
use Rattle.am_types.specs.Same.{same_id, same_bytes}
use Rattle.am_types.specs.Views.{id_of}
use Rattle.am_types.proofs.Orders.{id_total, same_id-true, same_id_itself}
use Rattle.am_laws.proofs.Ancestry.{Contains-filter, Contains-from_filter}
use Rattle.am_histories.specs.Rebuilt.{ids, is_within, op_at, ops_within}
use Rattle.am_histories.proofs.Sorted.{same_sorted, Contains-here, Contains-there}
use Rattle.am_histories.proofs.Contained.{Contains-map, Contains-from_map}
use Rattle.am_histories.proofs.Tests.{same_bytes-true}
use Rattle.am_histories.proofs.Restored.{each_once-sorted}
use Rattle.am_rebuild.specs.declared.mention.Named.{Named}
use Rattle.am_rebuild.specs.Mentions.{Mention, mentions, author_cmp, by_author, mention_of, group_op, of_id, ops_in, AreSortedMentions}
use Rattle.am_rebuild.proofs.Authors.{author_total, author_exact}
use Rattle.am_rebuild.proofs.Groups.{group_op-is}
use Rattle.am_rebuild.proofs.Walked.{filter_map-agree}
use Rattle.am_rebuild.proofs.Mentioned.{id_known, known_id}

-- ---- general

pub filter-map : {X Y : Type 0} (f : X → Y) (p : Y → Bool) (xs : List X) → filter p (map f xs) ≡ map f (filter (λ x. p (f x)) xs)
filter-map f p [] = refl
filter-map f p (x ∷ xs) =
    let again = filter-map f p xs in
    elim (cases_Bool (p (f x))) [ inl e ↦ simp e (ap (λ l. f x ∷ l) again) | inr e ↦ simp e again ]

-- what passes q passes p
filter_inner : {X : Type 0} (p q : X → Bool) (xs : List X) → ((x : X) → q x ≡ true → p x ≡ true) → filter q (filter p xs) ≡ filter q xs
filter_inner p q [] h = refl
filter_inner p q (x ∷ xs) h =
    let again = filter_inner p q xs h in
    elim (cases_Bool (q x)) [
      | inl e ↦ let f = h x e in simp (f, e) (ap (λ l. x ∷ l) again)
      | inr e ↦ elim (cases_Bool (p x)) [ inl f ↦ simp (f, e) again | inr f ↦ simp (f, e) again ]
    ]

pub sorted-map : {X K : Type 0} (R : K → K → Ordering) (f : X → K) (xs : List X) → IsSorted (on f R) xs → IsSorted R (map f xs)
sorted-map R f [] s k d z h = absurd (omega arith)
sorted-map R f (x ∷ xs) s k d z h =
    let n = length-map (x ∷ xs) f in
    let next : k + 1 < length (x ∷ xs) = omega arith in
    let here : k < length (x ∷ xs) = omega arith in
    let a = get_or-map f (x ∷ xs) (k + 1) x d next in
    let b = get_or-map f (x ∷ xs) k x d here in
    (λ j. is_lt (R (a j) (b j))) ∙ s k x z next

pub same_answers : (p q : Bool) → (p ≡ true → q ≡ true) → (q ≡ true → p ≡ true) → p ≡ q
same_answers true q f g = sym (f refl)
same_answers false true f g = g refl
same_answers false false f g = refl

-- both orders tie only what is equal
pub ties_alike : (x y : OpId) → same_id x y ≡ eq_by_cmp author_cmp x y
ties_alike x y = same_answers _ _
    (λ t. ap (λ i. eq_by_cmp author_cmp x i) (sym (same_id-true x y t)) ∙ ap is_eq (tied_itself author_total x))
    (λ t. ap (same_id x) (sym (tells_apart author_exact x y t)) ∙ same_id_itself x)

-- neither below the other
pub ties_are : (x y : OpId) → ties (λ a b. is_lt (author_cmp a b)) x y ≡ same_id x y
ties_are x y = go (author_cmp x y) (author_cmp y x) (author_total.antisymm y x) ∙ sym (ties_alike x y)
  where
    go : (o p : Ordering) → p ≡ ordering_reverse o → (not (is_lt o) && not (is_lt p)) ≡ is_eq o
    go Less p e = refl
    go Equal p e = rw e
    go Greater p e = rw e

-- ---- one actor

same_order : (actor : List ℕ) (x y : OpId) → x.actor ≡ actor → y.actor ≡ actor → id_cmp x y ≡ Less → author_cmp x y ≡ Less
same_order actor x y a b l =
    let t : bytes_cmp x.actor y.actor ≡ Equal = ap (bytes_cmp x.actor) (b ∙ sym a) ∙ tied_itself nat_list_cmp_total x.actor in
    ap (λ o. ordering_then o (nat_cmp x.counter y.counter)) t ∙ go (nat_cmp x.counter y.counter) (bytes_cmp x.actor y.actor) t l
  where
    go : (o p : Ordering) → p ≡ Equal → ordering_then o p ≡ Less → o ≡ Less
    go Less p e l = refl
    go Equal p e l = sym e ∙ l
    go Greater p e l = l

by_authors : (actor : List ℕ) (xs : List OpId) → ((i : OpId) → Contains xs i → i.actor ≡ actor) → IsStrictlySortedBy id_cmp xs → IsStrictlySortedBy author_cmp xs
unfolding IsStrictlySortedBy
by_authors actor [] h s = tt
by_authors actor (x ∷ xs) h s = (go xs (λ i c. h i (Contains-there x i xs c)) s.0, by_authors actor xs (λ i c. h i (Contains-there x i xs c)) s.1)
  where
    go : (ys : List OpId) → ((i : OpId) → Contains ys i → i.actor ≡ actor) → AllByRecursion (λ y. id_cmp x y ≡ Less) ys → AllByRecursion (λ y. author_cmp x y ≡ Less) ys
    go [] f a = tt
    go (y ∷ ys) f a = (same_order actor x y (h x (Contains-here x xs)) (f y (Contains-here y ys)) a.0, go ys (λ i c. f i (Contains-there y i ys c)) a.1)

-- ---- the whole

module _ (rows : List Row) (all : List Named) (s : AreSortedMentions rows all) (actor : List ℕ) (low high : ℕ) where
  abbrev within : OpId → Bool
  within = is_within actor low high

  abbrev within_named : Named → Bool
  within_named n = within (id_of n.id)

  abbrev mention_id : Mention → OpId
  mention_id n = n.id

  abbrev part : List Named
  part = filter within_named all

  has_actor : (i : OpId) → within i ≡ true → i.actor ≡ actor
  has_actor i t = same_bytes-true i.actor actor (and_parts (same_bytes i.actor actor) _ t).0

  -- the mentions of an id
  group_is : (x : Named) → filter (of_id (id_of x.id)) (map mention_of all) ≡ filter (of_id (id_of x.id)) (mentions rows)
  group_is x =
      let p : Named → Bool = λ n. same_id (id_of x.id) (id_of n.id) in
      let q : Named → Bool = ties (λ a b. is_lt (by_author a b)) x in
      let agree = λ (l : List Named). filter_agree p q (λ n. sym (ties_are (id_of x.id) (id_of n.id))) l in
      filter-map mention_of (of_id (id_of x.id)) all
      ∙ ap (map mention_of) (agree all ∙ s.stable x ∙ sym (agree s.unsorted))
      ∙ sym (filter-map mention_of (of_id (id_of x.id)) s.unsorted)
      ∙ ap (filter (of_id (id_of x.id))) s.are

  part_group : (i : OpId) → within i ≡ true → (x : Named) → id_of x.id ≡ i → filter (of_id i) (map mention_of part) ≡ filter (of_id i) (mentions rows)
  part_group i t x e =
      ap (filter (of_id i)) (sym (filter-map mention_of (λ n. within n.id) all))
      ∙ filter_inner (λ n. within n.id) (of_id i) (map mention_of all) (λ n f. ap within (sym (same_id-true i n.id f)) ∙ t)
      ∙ subst (λ j. filter (of_id j) (map mention_of all) ≡ filter (of_id j) (mentions rows)) e (group_is x)

  named_here : (i : OpId) → Contains (map mention_id (map mention_of part)) i → (x : Named) × Contains all x × (within_named x ≡ true) × (id_of x.id ≡ i)
  named_here i c =
      let m = Contains-from_map mention_id (map mention_of part) i c in
      let x = Contains-from_map mention_of part m.0 m.1 in
      let f = Contains-from_filter within_named all x.0 x.1 in
      (x.0, f.0, f.1, ap mention_id x.2 ∙ m.2)

  ids_here : (i : OpId) → Contains (map mention_id (map mention_of part)) i → Contains (filter within (ids rows)) i
  ids_here i c = let x = named_here i c in subst (Contains (filter within (ids rows))) x.3 (Contains-filter within (ids rows) (id_of x.0.id) (id_known rows all s x.0 x.1) x.2)

  ids_there : (i : OpId) → Contains (filter within (ids rows)) i → Contains (map mention_id (map mention_of part)) i
  ids_there i c =
      let f = Contains-from_filter within (ids rows) i c in
      let x = known_id rows all s i f.0 in
      subst (Contains (map mention_id (map mention_of part))) x.2
      (Contains-map mention_id (map mention_of part) (mention_of x.0) (Contains-map mention_of part x.0 (Contains-filter within_named all x.0 x.1 (ap within x.2 ∙ f.1))))

  part_sorted : IsSorted by_author part → IsSorted author_cmp (map mention_id (map mention_of part))
  part_sorted up = sorted-map author_cmp mention_id (map mention_of part) (sorted-map (on mention_id author_cmp) mention_of part up)

  pub ids_are : IsSorted by_author part → dedup same_id (map mention_id (map mention_of part)) ≡ filter within (ids rows)
  ids_are up = same_sorted author_total author_exact _ _
      (IsStrictlySortedBy-dedup author_total ties_alike (map mention_id (map mention_of part)) (part_sorted up))
      (by_authors actor (filter within (ids rows)) (λ i c. has_actor i (Contains-from_filter within (ids rows) i c).1)
      (IsStrictlySortedBy-filter id_cmp within (ids rows) (each_once-sorted (flat_map (λ (r : Row). r.id ∷ r.succs) rows))))
      (λ i c. ids_here i (Contains-from_dedup same_id _ i c))
      (λ i c. Contains-dedup (eq_by_cmp_equiv id_total) same_id-true _ i (ids_there i c))

  pub ops_in-part : IsSorted by_author part → ops_in (map mention_of part) ≡ ops_within rows actor low high
  ops_in-part up =
      filter_map-agree (λ i. group_op (filter (of_id i) (map mention_of part))) (op_at rows) (dedup same_id (map mention_id (map mention_of part)))
      (λ i c.
      let x = named_here i (Contains-from_dedup same_id _ i c) in
      ap group_op (part_group i (ap within (sym x.3) ∙ x.2) x.0 x.3) ∙ group_op-is i rows)
      ∙ ap (filter_map (op_at rows)) (ids_are up)
