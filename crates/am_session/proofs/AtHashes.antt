-- Where something is read at some hashes, their order and repeats don't matter.
use Rattle.std.proofs.Common.{◌≡◌, ◌∙◌, ◌||◌, ℕ, zero, suc, List, ◌++◌, length, filter, flat_map, true, sym, subst, Contains}
use Rattle.std.specs.Fn.{iterate}
use Rattle.std.specs.Cmp.{IsEquivalence}
use Rattle.std.proofs.lemmas.List.Folds.{list_any-append}
use Rattle.std.proofs.lemmas.List.Kept.{Contains-dedup, Contains-from_dedup}
use Rattle.std.proofs.lemmas.List.Sorted.{Contains-permutation, IsPermutation-sym}
use Rattle.am_types.specs.declared.Hash.{Hash}
use Rattle.am_types.specs.Order.{hash_cmp, same, among, sorted_by}
use Rattle.am_types.specs.Same.{same_hash}
use Rattle.am_types.specs.Members.{Member}
use Rattle.am_types.specs.Ancestors.{members, with_deps, ancestor_hashes, ancestors}
use Rattle.am_types.proofs.Orders.{same_hash-true, same_hash_itself}
use Rattle.am_types.proofs.Sorting.{IsPermutation-sorted_by}
use Rattle.am_delivery.proofs.Lists.{same_truth}
use Rattle.am_delivery.proofs.Members.{among_from, from_among}
use Rattle.am_session.specs.Views.{each_once}

-- the same hashes are among both
abbrev pub Alike : List Hash → List Hash → Type 0
Alike hs gs = (h : Hash) → among hash_cmp hs h ≡ among hash_cmp gs h

alike_members : (C : List Member) (hs gs : List Hash) → Alike hs gs → members C hs ≡ members C gs
alike_members C hs gs s = λ i. filter (λ (m : Member). s m.hash i) C

among-append : (hs gs : List Hash) (h : Hash) → among hash_cmp (hs ++ gs) h ≡ (among hash_cmp hs h || among hash_cmp gs h)
among-append hs gs h = list_any-append (same hash_cmp h) hs gs

abbrev deps_of : List Member → List Hash
deps_of C = flat_map (λ m. m.change.deps) C

alike_deps : (C : List Member) (hs gs : List Hash) → Alike hs gs → Alike (with_deps C hs) (with_deps C gs)
alike_deps C hs gs s h =
    among-append hs (deps_of (members C hs)) h
    ∙ (λ i. s h i || among hash_cmp (deps_of (alike_members C hs gs s i)) h)
    ∙ sym (among-append gs (deps_of (members C gs)) h)

alike_steps : (C : List Member) (n : ℕ) (hs gs : List Hash) → Alike hs gs → Alike (iterate (with_deps C) n hs) (iterate (with_deps C) n gs)
alike_steps C zero hs gs s = s
alike_steps C (suc n) hs gs s = alike_steps C n (with_deps C hs) (with_deps C gs) (alike_deps C hs gs s)

pub alike_ancestors : (C : List Member) (hs gs : List Hash) → Alike hs gs → ancestors C hs ≡ ancestors C gs
unfolding ancestors
alike_ancestors C hs gs s = alike_members C (ancestor_hashes C hs) (ancestor_hashes C gs) (alike_steps C (length C) hs gs s)

-- ---- each once

same_hash_equivalence : IsEquivalence same_hash
same_hash_equivalence = record {
  refl = same_hash_itself;
  symm = λ x y. same_truth (same_hash x y) (same_hash y x) (turned x y) (turned y x);
  congr = λ x y z t. subst (λ w. same_hash x z ≡ same_hash w z) (same_hash-true x y t) (λ i. same_hash x z);
}
  where
    turned : (x y : Hash) → same_hash x y ≡ true → same_hash y x ≡ true
    turned x y t = subst (λ w. same_hash w x ≡ true) (same_hash-true x y t) (same_hash_itself x)

pub Contains-each_once : (hs : List Hash) (h : Hash) → Contains hs h → Contains (each_once hs) h
Contains-each_once hs h c =
    Contains-dedup same_hash_equivalence same_hash-true (sorted_by hash_cmp hs) h (Contains-permutation hs (sorted_by hash_cmp hs) h (IsPermutation-sorted_by hash_cmp hs) c)

pub Contains-from_each_once : (hs : List Hash) (h : Hash) → Contains (each_once hs) h → Contains hs h
Contains-from_each_once hs h c =
    Contains-permutation (sorted_by hash_cmp hs) hs h (IsPermutation-sym hs (sorted_by hash_cmp hs) (IsPermutation-sorted_by hash_cmp hs)) (Contains-from_dedup same_hash (sorted_by hash_cmp hs) h c)

pub alike_each_once : (hs : List Hash) → Alike hs (each_once hs)
alike_each_once hs h =
    same_truth (among hash_cmp hs h) (among hash_cmp (each_once hs) h)
    (λ t. among_from (each_once hs) h (Contains-each_once hs h (from_among hs h t)))
    (λ t. among_from hs h (Contains-from_each_once hs h (from_among (each_once hs) h t)))
