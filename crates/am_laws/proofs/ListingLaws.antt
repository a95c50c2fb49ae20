-- The canonical order, the heads and the table of a set don't depend on how it is listed.
use Rattle.std.proofs.Common.{◌≡◌, List, ◌∷◌, filter, not, sym, ap, ◌∙◌, Contains, IsPermutation}
use Rattle.std.specs.Cmp.{IsTotalOrder}
use Rattle.std.specs.List.{dedup, flat_map}
use Rattle.std.specs.Ordering.{nat_cmp, on, then_cmp, ordering_then}
use Rattle.std.specs.declared.cmp.Ordering.{Ordering}
use Rattle.std.specs.declared.cmp.Ordering.TheVariants.{Less, Equal, Greater}
use Rattle.std.proofs.lemmas.Cmp.{nat_cmp_total, nat_list_cmp_total, on_total, then_total}
use Rattle.std.proofs.lemmas.List.Elements.{All-contains_itself, filter_agree}
use Rattle.std.proofs.lemmas.List.Sorted.{IsPermutation-map, list_any-IsPermutation}
use Rattle.std.proofs.lemmas.Map.Lookups.{exact_bytes}
use Rattle.am_laws.specs.Records.{Hash}
use Rattle.am_types.specs.Order.{bytes_cmp, hash_cmp, among, sorted_by}
use Rattle.am_types.specs.Same.{same_bytes}
use Rattle.am_types.specs.Operations.{operations, all_operations, OneOperationPerId}
use Rattle.am_types.specs.Members.{Member, changes, hashes, is_dependency, heads}
use Rattle.am_types.specs.ValidSets.{Valid}
use Rattle.am_types.specs.Canonical.{depth, canonical_cmp, order}
use Rattle.am_types.specs.Documents.{op_actors, actors, used_actors}
use Rattle.am_types.proofs.Orders.{hash_total, hash_exact}
use Rattle.am_types.proofs.Sorting.{sorted_by-permutation}
use Rattle.am_types.proofs.Permutations.{IsPermutation-filter, IsPermutation-flat_map}
use Rattle.am_laws.proofs.DistinctIds.{distinct_ids_of}
use Rattle.am_laws.proofs.Listed.{Facts}
use Rattle.am_laws.proofs.ValidSetLaws.{grounds_valid}
use Rattle.am_laws.proofs.Depths.{depth-permutation}

-- ---- heads

pub heads-permutation : (C D : List Member) → IsPermutation C D → heads D ≡ heads C
heads-permutation C D p =
    let headed = λ (E : List Member) (g : Hash). not (is_dependency E g) in
    ap (sorted_by hash_cmp) (filter_agree (headed D) (headed C) (λ g. ap not (sym (list_any-IsPermutation (λ (m : Member). among hash_cmp m.change.deps g) C D p))) (hashes D))
    ∙ sorted_by-permutation hash_total (λ _. Unit {0}) (λ x y _ _ e. hash_exact x y e) (filter (headed C) (hashes C)) (filter (headed C) (hashes D)) (λ k d l. tt)
    (IsPermutation-filter (headed C) (hashes C) (hashes D) (IsPermutation-map (λ (m : Member). m.hash) C D p))

-- ---- the canonical order

pub canonical_total : (C : List Member) → IsTotalOrder (canonical_cmp C)
canonical_total C =
    then_total (on_total (λ (m : Member). depth C m.change) nat_cmp_total)
    (then_total (on_total (λ (m : Member). m.change.actor) nat_list_cmp_total)
    (then_total (on_total (λ (m : Member). m.change.seq) nat_cmp_total)
    (on_total (λ (m : Member). m.hash) hash_total)))

second_ties : (a b : Ordering) → ordering_then a b ≡ Equal → b ≡ Equal
second_ties Less b e = cc
second_ties Equal b e = e
second_ties Greater b e = cc

-- members that tie have one hash
pub canonical_ties : (C : List Member) (x y : Member) → canonical_cmp C x y ≡ Equal → x.hash ≡ y.hash
canonical_ties C x y e =
    let by_depth : Ordering = on (λ (m : Member). depth C m.change) nat_cmp x y in
    let by_actor : Ordering = on (λ (m : Member). m.change.actor) bytes_cmp x y in
    let by_seq : Ordering = on (λ (m : Member). m.change.seq) nat_cmp x y in
    let by_hash : Ordering = hash_cmp x.hash y.hash in
    let first = second_ties by_depth (ordering_then by_actor (ordering_then by_seq by_hash)) e in
    hash_exact x.hash y.hash (second_ties by_seq by_hash (second_ties by_actor (ordering_then by_seq by_hash) first))

same_cmp : (C D : List Member) → IsPermutation C D → canonical_cmp D ≡ canonical_cmp C
same_cmp C D p =
    λ i. then_cmp (on (λ m. depth-permutation C D p m.change i) nat_cmp)
    (then_cmp (on (λ m. m.change.actor) bytes_cmp) (then_cmp (on (λ m. m.change.seq) nat_cmp) (on (λ m. m.hash) hash_cmp)))

pub order-permutation : (C D : List Member) → Facts C → IsPermutation C D → order D ≡ order C
unfolding order
order-permutation C D facts p =
    ap (λ cmp. sorted_by cmp D) (same_cmp C D p)
    ∙ sorted_by-permutation (canonical_total C) (Contains C) (λ x y cx cy e. facts.one_hash x y cx cy (canonical_ties C x y e)) C D (All-contains_itself C) p

-- ---- the table

pub used_actors-permutation : (C D : List Member) → IsPermutation C D → used_actors D ≡ used_actors C
used_actors-permutation C D p =
    ap (dedup same_bytes) (sorted_by-permutation nat_list_cmp_total (λ _. Unit {0}) (λ x y _ _ e. exact_bytes x y e) (actors C) (actors D) (λ k d l. tt)
    (IsPermutation-flat_map (λ (m : Member). m.change.actor ∷ flat_map op_actors m.change.ops) C D p))

-- the operations are the same, in another order
pub operations-permutation : (C D : List Member) → IsPermutation C D → IsPermutation (all_operations (changes C)) (all_operations (changes D))
operations-permutation C D p = IsPermutation-flat_map operations (changes C) (changes D) (IsPermutation-map (λ (m : Member). m.change) C D p)

pub one_per_id : (C : List Member) → Valid C → OneOperationPerId (all_operations (changes C))
one_per_id C v = distinct_ids_of C (grounds_valid C v).facts
