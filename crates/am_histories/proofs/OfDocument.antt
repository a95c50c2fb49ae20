-- A valid set in canonical order is the history of its table.
use Rattle.std.proofs.Common.{ℕ, zero, suc, get_or, ◌≡◌, ◌+◌, ◌<◌, List, [], ◌∷◌, ◌++◌, length, map, Bool, true, false, refl, sym, ap, ◌∙◌, subst, inl, inr, Contains, IsTrue, IsPermutation, arith}
use Rattle.std.specs.Cmp.{IsTotalOrder}
use Rattle.std.specs.List.{AllAdjacentBelow, AllZip, flat_map, list_all}
use Rattle.std.specs.List.Sorted.{IsStrictlySortedBy}
use Rattle.std.specs.Ordering.{eq_by_cmp, is_eq, is_gt, nat_cmp, ordering_reverse}
use Rattle.std.specs.declared.cmp.Ordering.{Ordering}
use Rattle.std.specs.declared.cmp.Ordering.TheVariants.{Less, Equal, Greater}
use Rattle.std.proofs.lemmas.Bool.{both_ways, lt-ltb}
use Rattle.std.proofs.lemmas.Cmp.{nat_cmp_total, nat_list_cmp_total, nat_list_eq_equiv, eq_by_cmp_equiv}
use Rattle.std.proofs.lemmas.List.{append_assoc}
use Rattle.std.proofs.lemmas.List.Elements.{All-contains, All-from_recursion, Contains-append_right, Contains-append_cases}
use Rattle.std.proofs.lemmas.List.Kept.{Contains-dedup, IsStrictlySortedBy-dedup}
use Rattle.std.proofs.lemmas.List.Sorted.{IsPermutation-refl, IsPermutation-sym, IsPermutation-trans, Contains-permutation}
use Rattle.std.proofs.lemmas.Map.Keys.{sorted_head, sorted_tail}
use Rattle.std.proofs.lemmas.Map.Lookups.{exact_bytes}
use Rattle.am_types.specs.declared.Hash.{Hash}
use Rattle.am_types.specs.Order.{bytes_cmp, hash_cmp, same, among, sorted_by, Ascends}
use Rattle.am_types.specs.Same.{same_bytes}
use Rattle.am_types.specs.Operations.{all_operations}
use Rattle.am_types.specs.Members.{Member, changes, holds, DepsFirst}
use Rattle.am_types.specs.ValidSets.{Valid}
use Rattle.am_types.specs.Canonical.{dependencies, depth, canonical_cmp, order}
use Rattle.am_types.specs.Documents.{op_actors, actors, used_actors, index, meta_of, IsMetaOf, table}
use Rattle.am_laws.proofs.Ancestry.{Contains-filter}
use Rattle.am_laws.proofs.Agreement.{held_member}
use Rattle.am_laws.proofs.Depths.{depth_counts}
use Rattle.am_laws.proofs.Growth.{same_answers}
use Rattle.am_laws.proofs.Listed.{Facts}
use Rattle.am_laws.proofs.ListingLaws.{canonical_total, operations-permutation, one_per_id}
use Rattle.am_types.proofs.Lists.{all_of}
use Rattle.am_types.proofs.Permutations.{IsPermutation-flat_map}
use Rattle.am_types.proofs.Permuted.{rows-permutation}
use Rattle.am_types.proofs.Rising.{Rises, Rises-sorted_by}
use Rattle.am_types.proofs.Sorting.{IsPermutation-sorted_by}
use Rattle.am_laws.proofs.ValidSetLaws.{grounds_valid}
use Rattle.am_histories.specs.Laws.{DocumentIsHistory}
use Rattle.am_histories.proofs.Sorted.{Contains-cases, Contains-here, Contains-there}
use Rattle.am_histories.proofs.Contained.{Contains-map, any_from}
use Rattle.am_histories.proofs.Tests.{same_bytes-true, same_bytes_itself}
use Rattle.am_histories.proofs.Authors.{holds-hash, among-from}
use Rattle.am_histories.proofs.Restored.{Contains-sorted_by, sorted_from_rises}
use Rattle.am_histories.proofs.Complete.{at_most_largest}

-- ---- lists

pub all_pass : {X : Type 0} (p : X → Bool) (xs : List X) → ((x : X) → Contains xs x → p x ≡ true) → list_all p xs ≡ true
all_pass p [] f = refl
all_pass p (x ∷ xs) f =
    let here = f x (Contains-here x xs) in
    let rest = all_pass p xs (λ y c. f y (Contains-there x y xs c)) in
    simp (here, rest) refl

module _ {X : Type 0} (R : X → X → Ordering) where
  pub ascends_from_sorted : (xs : List X) → IsStrictlySortedBy R xs → AllAdjacentBelow (λ x y. R x y ≡ Less) xs (length xs)
  ascends_from_sorted [] s k d l = absurd (omega arith)
  ascends_from_sorted (x ∷ xs) s zero d l = All-from_recursion (λ y. R x y ≡ Less) xs (sorted_head R x xs s) 0 d (omega arith)
  ascends_from_sorted (x ∷ xs) s (suc k) d l =
      let e : suc k + 1 ≡ suc (k + 1) = omega arith in
      subst (λ n. R (get_or xs k d) (get_or (x ∷ xs) n d) ≡ Less) (sym e) (ascends_from_sorted xs (sorted_tail R x xs s) k d (omega arith))

module _ {X : Type 0} {R : X → X → Ordering} (total : IsTotalOrder R) where
  Rises-right : (xs ys : List X) → Rises total (xs ++ ys) → Rises total ys
  Rises-right [] ys r = r
  Rises-right (x ∷ xs) ys r = Rises-right xs ys r.1

-- ---- dependencies first

greater : (a b : ℕ) → b < a → nat_cmp a b ≡ Greater
greater a b l = let t = lt-ltb b a l in let down : nat_cmp b a ≡ Less = simp t refl in nat_cmp_total.antisymm a b ∙ ap ordering_reverse down

module _ (C : List Member) (v : Valid C) where
  facts : Facts C
  facts = (grounds_valid C v).facts

  deeper : (m d : Member) → Contains C m → Contains C d → Contains m.change.deps d.hash → depth C d.change < depth C m.change
  deeper m d cm cd c =
      let there = Contains-filter (λ (n : Member). among hash_cmp m.change.deps n.hash) C d cd (among-from m.change.deps d.hash c) in
      let up = at_most_largest 0 _ (depth C d.change + 1) (Contains-map (λ (n : Member). depth C n.change + 1) (dependencies C m.change) d there) in
      let is = depth_counts C v m cm in
      omega arith

  above : (m d : Member) → depth C d.change < depth C m.change → canonical_cmp C m d ≡ Greater
  above m d l = let e = greater (depth C m.change) (depth C d.change) l in simp e refl

  module _ (L : List Member) (within : (m : Member) → Contains L m → Contains C m) (whole : (m : Member) → Contains C m → Contains L m) where
    dep_before : (B rest : List Member) (m : Member) → L ≡ B ++ m ∷ rest → Rises (canonical_total C) (m ∷ rest) → (h : Hash) → Contains m.change.deps h → holds B h ≡ true
    dep_before B rest m w r h c =
        let cm = within m (subst (λ l. Contains l m) (sym w) (Contains-append_right B (m ∷ rest) m (Contains-here m rest))) in
        let d = held_member C h (All-contains (λ g. holds C g ≡ true) m.change.deps h (facts.closed m cm) c) in
        let deep = deeper m d.0 cm d.1 (subst (Contains m.change.deps) (sym d.2) c) in
        elim (Contains-append_cases B (m ∷ rest) d.0 (subst (λ l. Contains l d.0) w (whole d.0 d.1))) [
          | inl before ↦ subst (λ g. holds B g ≡ true) d.2 (holds-hash B d.0 before)
          | inr after ↦ elim (Contains-cases m d.0 rest after) [
            | inl e ↦ let same_depth = ap (λ (n : Member). depth C n.change) e in absurd (omega arith)
            | inr later ↦
                let not_above = All-contains (λ y. is_gt (canonical_cmp C m y) ≡ false) rest d.0 (All-from_recursion (λ y. is_gt (canonical_cmp C m y) ≡ false) rest r.0) later in
                absurd (both_ways _ not_above (ap is_gt (above m d.0 deep)))
          ]
        ]

    deps_first_from : (B rest : List Member) → L ≡ B ++ rest → Rises (canonical_total C) rest → DepsFirst B rest
    deps_first_from B [] w r = tt
    deps_first_from B (m ∷ rest) w r = (
      all_pass (holds B) m.change.deps (dep_before B rest m w r),
      deps_first_from (B ++ m ∷ []) rest (w ∙ sym (append_assoc B (m ∷ []) rest)) r.1,
    )

pub order-same : (C : List Member) → IsPermutation C (order C)
unfolding order
order-same C = IsPermutation-sorted_by (canonical_cmp C) C

pub order-deps_first : (C : List Member) → Valid C → DepsFirst [] (order C)
unfolding order
order-deps_first C v =
    let p = IsPermutation-sorted_by (canonical_cmp C) C in
    deps_first_from C v (sorted_by (canonical_cmp C) C)
    (λ m c. Contains-permutation _ C m (IsPermutation-sym C _ p) c) (λ m c. Contains-permutation C _ m p c)
    [] (sorted_by (canonical_cmp C) C) refl (Rises-sorted_by (canonical_total C) C)

-- ---- change rows

metas_are : (L ms : List Member) → AllZip (IsMetaOf L) ms (map (λ (m : Member). meta_of m.change (map (index L) m.change.deps)) ms)
metas_are L [] = tt
metas_are L (m ∷ ms) = ((map (index L) m.change.deps, IsPermutation-refl (map (index L) m.change.deps), refl), metas_are L ms)

-- ---- actors

same_test : (a b : List ℕ) → same_bytes a b ≡ eq_by_cmp bytes_cmp a b
same_test a b = same_answers _ _
    (λ t. subst (λ c. eq_by_cmp bytes_cmp a c ≡ true) (same_bytes-true a b t) ((eq_by_cmp_equiv nat_list_cmp_total).refl a))
    (λ t. subst (λ c. same_bytes a c ≡ true) (exact_bytes a b (tied _ t)) (same_bytes_itself a))
  where
    tied : (o : Ordering) → is_eq o ≡ true → o ≡ Equal
    tied Less e = absurd (both_ways false refl e)
    tied Equal e = refl
    tied Greater e = absurd (both_ways false refl e)

used-ascend : (C : List Member) → Ascends bytes_cmp (used_actors C)
used-ascend C =
    ascends_from_sorted bytes_cmp (used_actors C)
    (IsStrictlySortedBy-dedup nat_list_cmp_total same_test (sorted_by bytes_cmp (actors C)) (sorted_from_rises nat_list_cmp_total (sorted_by bytes_cmp (actors C)) (Rises-sorted_by nat_list_cmp_total (actors C))))

used-has : (C : List Member) (a : List ℕ) → Contains (actors C) a → IsTrue (among bytes_cmp (used_actors C) a)
used-has C a c =
    any_from (same bytes_cmp a) (used_actors C) a
    (Contains-dedup nat_list_eq_equiv same_bytes-true (sorted_by bytes_cmp (actors C)) a (Contains-sorted_by bytes_cmp (actors C) a c))
    ((eq_by_cmp_equiv nat_list_cmp_total).refl a)

-- ---- the history

order-valid : (C : List Member) → Valid C → Valid (order C)
order-valid C v = record {
  listing = v.listing;
  same = IsPermutation-trans (order C) C v.listing (IsPermutation-sym C (order C) (order-same C)) v.same;
  in_turn = v.in_turn;
}

pub document_is_history : DocumentIsHistory
unfolding table
document_is_history C v =
    let back = IsPermutation-sym C (order C) (order-same C) in
    record {
      valid = order-valid C v;
      deps_first = order-deps_first C v;
      metas = metas_are (order C) (order C);
      rows = rows-permutation (all_operations (changes (order C))) (all_operations (changes C)) (one_per_id (order C) (order-valid C v)) (operations-permutation (order C) C back);
      actors_ascend = used-ascend C;
      actors = all_of (λ a. IsTrue (among bytes_cmp (used_actors C) a)) (actors (order C)) (λ a c. used-has C a
          (Contains-permutation (actors (order C)) (actors C) a (IsPermutation-flat_map (λ (m : Member). m.change.actor ∷ flat_map op_actors m.change.ops) (order C) C back) c));
    }
