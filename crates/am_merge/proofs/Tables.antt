-- Change rows and actors of a larger set.
use Rattle.std.proofs.Common.{ℕ, zero, suc, ◌≡◌, ◌+◌, List, [], ◌∷◌, ◌++◌, map, true, false, Option, Some, None, option_map, slice_get, unwrap_or, refl, sym, ap, ◌∙◌, subst, inl, inr, Contains, arith}
use Rattle.std.specs.Bool.{⊤}
use Rattle.std.specs.List.{AllByRecursion, dedup, flat_map}
use Rattle.std.specs.List.Sorted.{IsStrictlySortedBy}
use Rattle.std.specs.Ordering.{eq_by_cmp, is_gt}
use Rattle.std.specs.declared.cmp.Ordering.{Ordering}
use Rattle.std.specs.declared.cmp.Ordering.TheVariants.{Less, Equal}
use Rattle.std.proofs.lemmas.Bool.{cases_Bool, both_ways}
use Rattle.std.proofs.lemmas.Cmp.{nat_list_cmp_total, nat_list_eq_equiv, tied_itself}
use Rattle.std.proofs.lemmas.Map.Lookups.{exact_bytes}
use Rattle.std.proofs.lemmas.Map.Views.{tells_apart}
use Rattle.std.proofs.lemmas.List.{map-append}
use Rattle.std.proofs.lemmas.List.Concat.{flat_map-append}
use Rattle.std.proofs.lemmas.List.Elements.{All-contains, All-from_recursion, Contains-append_left, Contains-append_right, Contains-append_cases}
use Rattle.std.proofs.lemmas.List.Kept.{IsStrictlySortedBy-dedup, Contains-dedup, Contains-from_dedup}
use Rattle.am_types.specs.declared.Hash.{Hash}
use Rattle.am_types.specs.Order.{bytes_cmp, sorted_by}
use Rattle.am_types.specs.Same.{same_bytes, same_hash}
use Rattle.am_types.specs.Members.{Member, holds}
use Rattle.am_types.specs.Canonical.{order, canonical_cmp}
use Rattle.am_types.specs.Documents.{index, actors, used_actors, op_actors, metas, unless_empty, table}
use Rattle.am_types.specs.ValidSets.{Valid}
use Rattle.am_laws.specs.Tables.{authors}
use Rattle.am_laws.proofs.ActorLaws.{actors_are_authors}
use Rattle.am_laws.proofs.Agreement.{held_member}
use Rattle.am_types.proofs.Lists.{map_within}
use Rattle.am_types.proofs.Orders.{same_bytes-true, same_hash-true, same_hash_itself}
use Rattle.am_types.proofs.Rising.{AboveNone, Rises, Rises-sorted_by, IsSorted-rises, sorted_by-rising}
use Rattle.am_laws.proofs.SameMembers.{NoRepeat, same_members}
use Rattle.am_types.proofs.Sorting.{sorted_by-permutation}
use Rattle.am_laws.proofs.ValidSetLaws.{grounds_valid}
use Rattle.am_merge.specs.Laws.{MergesTables, RowsOfSmaller, RowsOfLarger, ChangesInOrder, HeadsOfLarger, ActorsOfLarger, AuthorsOfLarger}
use Rattle.am_merge.specs.Merge.{merge}
use Rattle.am_merge.specs.Tables.{moved}
use Rattle.am_merge.proofs.Lists.{map-map, same_answers}
use Rattle.am_merge.proofs.Sorts.{Contains-sorted_by, Contains-from_sorted_by}
use Rattle.am_merge.proofs.Merging.{merge_is}
use Rattle.am_merge.proofs.Larger.{rows_grown, rows_of_old}
use Rattle.am_merge.proofs.SlotLaws.{merges_rows}
use Rattle.am_merge.proofs.Orders.{same_depth, order_of_old, order_grown, heads_grown}

-- ---- places of members

found_at : (L : List Member) (m : Member) → Contains L m → option_map (λ (n : Member). n.hash) (slice_get L (index L m.hash)) ≡ Some m.hash
found_at [] m c = absurd (omega (arith, c.1))
found_at (n ∷ L) m c =
    elim (cases_Bool (same_hash m.hash n.hash)) [
      | inl t ↦ let is : n.hash ≡ m.hash = sym (same_hash-true m.hash n.hash t) in
          let here : index (n ∷ L) m.hash ≡ 0 = simp t refl in
          ap (λ i. option_map (λ (n : Member). n.hash) (slice_get (n ∷ L) i)) here ∙ ap Some is
      | inr f ↦ let step : index (n ∷ L) m.hash ≡ 1 + index L m.hash = simp f refl in
          let there : index (n ∷ L) m.hash ≡ suc (index L m.hash) = omega arith in
          ap (λ i. option_map (λ (n : Member). n.hash) (slice_get (n ∷ L) i)) there ∙ found_at L m (rest c f)
    ]
  where
    rest : Contains (n ∷ L) m → same_hash m.hash n.hash ≡ false → Contains L m
    rest (zero, l, e) f = let is : n ≡ m = e in absurd (both_ways (same_hash m.hash n.hash) f (subst (λ (k : Member). same_hash m.hash k.hash ≡ true) (sym is) (same_hash_itself m.hash)))
    rest (suc k, l, e) f = (k, omega arith, e)

by_hash : (M : List Member) (o : Option Member) (h : Hash) → option_map (λ (n : Member). n.hash) o ≡ Some h → unwrap_or (option_map (λ n. index M n.hash) o) 0 ≡ index M h
by_hash M None h e = cc
by_hash M (Some n) h e = ap (index M) (some_is e)
  where
    some_is : {a b : Hash} → Some a ≡ Some b → a ≡ b
    some_is e = cc

moved_member : (L M : List Member) (m : Member) → Contains L m → moved L M (index L m.hash) ≡ index M m.hash
moved_member L M m c = by_hash M (slice_get L (index L m.hash)) m.hash (found_at L m c)

in_order : (C : List Member) (m : Member) → Contains C m → Contains (order C) m
unfolding order
in_order C m c = Contains-sorted_by (canonical_cmp C) C m c

-- the dependencies of an old member, by their places in the larger set
pub deps_moved : (C E : List Member) → Valid C → (m : Member) → Contains C m → map (index (order (C ++ E))) m.change.deps ≡ map (moved (order C) (order (C ++ E))) (map (index (order C)) m.change.deps)
deps_moved C E v m c =
    sym (map-map (moved (order C) (order (C ++ E))) (index (order C)) m.change.deps
    ∙ map_within (λ h. moved (order C) (order (C ++ E)) (index (order C) h)) (index (order (C ++ E))) m.change.deps
    (λ h ch. let n = held_member C h (All-contains (λ h. holds C h ≡ true) m.change.deps h ((grounds_valid C v).facts.closed m c) ch) in
    subst (λ h. moved (order C) (order (C ++ E)) (index (order C) h) ≡ index (order (C ++ E)) h) n.2 (moved_member (order C) (order (C ++ E)) n.0 (in_order C n.0 n.1))))

-- ---- actors

bytes_tie : (x y : List ℕ) → same_bytes x y ≡ eq_by_cmp bytes_cmp x y
bytes_tie x y = same_answers (same_bytes x y) (eq_by_cmp bytes_cmp x y)
    (λ t. subst (λ z. eq_by_cmp bytes_cmp x z ≡ true) (same_bytes-true x y t) (rw (tied_itself nat_list_cmp_total x) refl))
    (λ t. subst (λ z. same_bytes x z ≡ true) (tells_apart (λ a b e. exact_bytes a b e) x y t) (nat_list_eq_equiv.refl x))

strict : (xs : List (List ℕ)) → IsStrictlySortedBy bytes_cmp (dedup same_bytes (sorted_by bytes_cmp xs))
strict xs = IsStrictlySortedBy-dedup nat_list_cmp_total bytes_tie (sorted_by bytes_cmp xs) (IsSorted-rises nat_list_cmp_total (sorted_by bytes_cmp xs) (Rises-sorted_by nat_list_cmp_total xs))

rises_strict : (xs : List (List ℕ)) → IsStrictlySortedBy bytes_cmp xs → Rises nat_list_cmp_total xs
unfolding IsStrictlySortedBy
rises_strict [] s = tt
rises_strict (x ∷ xs) s = (none xs s.0, rises_strict xs s.1)
  where
    none : (ys : List (List ℕ)) → AllByRecursion (λ y. bytes_cmp x y ≡ Less) ys → AboveNone nat_list_cmp_total x ys
    none [] a = tt
    none (y ∷ ys) a = (ap is_gt a.0, none ys a.1)

no_repeat_strict : (xs : List (List ℕ)) → IsStrictlySortedBy bytes_cmp xs → NoRepeat xs
unfolding IsStrictlySortedBy
no_repeat_strict [] s = tt
no_repeat_strict (x ∷ xs) s = (
  (λ c. clash (bytes_cmp x x) (All-contains (λ y. bytes_cmp x y ≡ Less) xs x (All-from_recursion (λ y. bytes_cmp x y ≡ Less) xs s.0) c) (tied_itself nat_list_cmp_total x)),
  no_repeat_strict xs s.1,
)
  where
    clash : (r : Ordering) → r ≡ Less → r ≡ Equal → ⊥
    clash r a b = cc

-- strictly ascending lists with the same members are equal
strict_same : (xs ys : List (List ℕ)) → IsStrictlySortedBy bytes_cmp xs → IsStrictlySortedBy bytes_cmp ys → ((a : List ℕ) → Contains xs a → Contains ys a) → ((a : List ℕ) → Contains ys a → Contains xs a) → xs ≡ ys
strict_same xs ys sx sy f g =
    sym (sorted_by-rising nat_list_cmp_total xs (rises_strict xs sx))
    ∙ sym (sorted_by-permutation nat_list_cmp_total (λ _. ⊤) (λ a b _ _ e. exact_bytes a b e) xs ys (λ k d l. tt) (same_members xs ys (no_repeat_strict xs sx) (no_repeat_strict ys sy) f g))
    ∙ sorted_by-rising nat_list_cmp_total ys (rises_strict ys sy)

into : (xs : List (List ℕ)) (a : List ℕ) → Contains xs a → Contains (dedup same_bytes (sorted_by bytes_cmp xs)) a
into xs a c = Contains-dedup nat_list_eq_equiv same_bytes-true (sorted_by bytes_cmp xs) a (Contains-sorted_by bytes_cmp xs a c)

from : (xs : List (List ℕ)) (a : List ℕ) → Contains (dedup same_bytes (sorted_by bytes_cmp xs)) a → Contains xs a
from xs a c = Contains-from_sorted_by bytes_cmp xs a (Contains-from_dedup same_bytes (sorted_by bytes_cmp xs) a c)

pub actors_grown : (C E : List Member) → used_actors (C ++ E) ≡ dedup same_bytes (merge bytes_cmp (used_actors C) (used_actors E))
actors_grown C E =
    let a : List (List ℕ) = actors C in
    let b : List (List ℕ) = actors E in
    let whole : actors (C ++ E) ≡ a ++ b = flat_map-append (λ (m : Member). m.change.actor ∷ flat_map op_actors m.change.ops) C E in
    let both : List (List ℕ) = used_actors C ++ used_actors E in
    ap (λ l. dedup same_bytes (sorted_by bytes_cmp l)) whole
    ∙ strict_same (dedup same_bytes (sorted_by bytes_cmp (a ++ b))) (dedup same_bytes (sorted_by bytes_cmp both)) (strict (a ++ b)) (strict both)
    (λ x c. into both x (elim (Contains-append_cases a b x (from (a ++ b) x c)) [
      | inl d ↦ Contains-append_left (used_actors C) (used_actors E) x (into a x d)
      | inr d ↦ Contains-append_right (used_actors C) (used_actors E) x (into b x d)
    ]))
    (λ x c. into (a ++ b) x (elim (Contains-append_cases (used_actors C) (used_actors E) x (from both x c)) [
      | inl d ↦ Contains-append_left a b x (from a x d)
      | inr d ↦ Contains-append_right a b x (from b x d)
    ]))
    ∙ ap (dedup same_bytes) (sym (merge_is nat_list_cmp_total (used_actors C) (used_actors E) (rises_strict (used_actors C) (strict a)) (rises_strict (used_actors E) (strict b))))

pub authors_grown : (C E : List Member) → Valid C → Valid (C ++ E) → used_actors (C ++ E) ≡ dedup same_bytes (sorted_by bytes_cmp (used_actors C ++ authors E))
authors_grown C E v w =
    let a : List (List ℕ) = authors C in
    let b : List (List ℕ) = authors E in
    let u : List (List ℕ) = used_actors C in
    let same : u ≡ dedup same_bytes (sorted_by bytes_cmp a) = actors_are_authors C v in
    actors_are_authors (C ++ E) w
    ∙ ap (λ l. dedup same_bytes (sorted_by bytes_cmp l)) (map-append (λ (m : Member). m.change.actor) C E)
    ∙ strict_same (dedup same_bytes (sorted_by bytes_cmp (a ++ b))) (dedup same_bytes (sorted_by bytes_cmp (u ++ b))) (strict (a ++ b)) (strict (u ++ b))
    (λ x c. into (u ++ b) x (elim (Contains-append_cases a b x (from (a ++ b) x c)) [
      | inl d ↦ Contains-append_left u b x (subst (λ l. Contains l x) (sym same) (into a x d))
      | inr d ↦ Contains-append_right u b x d
    ]))
    (λ x c. into (a ++ b) x (elim (Contains-append_cases u b x (from (u ++ b) x c)) [
      | inl d ↦ Contains-append_left a b x (from a x (subst (λ l. Contains l x) same d))
      | inr d ↦ Contains-append_right a b x d
    ]))

-- ---- the laws

pub rows_of_smaller : RowsOfSmaller
rows_of_smaller C E v w = rows_of_old C E v w

pub rows_of_larger : RowsOfLarger
rows_of_larger C E v w = rows_grown C E v w

pub changes_in_order : ChangesInOrder
changes_in_order C E v w = record {
  depths = same_depth C E v w;
  smaller = order_of_old C E v w;
  larger = order_grown C E v w;
  dependencies = deps_moved C E v;
}

pub heads_of_larger : HeadsOfLarger
heads_of_larger C E v w = heads_grown C E v w

pub actors_of_larger : ActorsOfLarger
actors_of_larger = actors_grown

pub authors_of_larger : AuthorsOfLarger
authors_of_larger = authors_grown

pub merges_tables : MergesTables
unfolding table
merges_tables C E v w = λ i. record {
  actors = actors_grown C E i;
  heads = heads_grown C E v w i;
  metas = metas (order_grown C E v w i);
  rows = sym (merges_rows C E v w) i;
  suffix = unless_empty (map (index (order_grown C E v w i)) (heads_grown C E v w i));
}
