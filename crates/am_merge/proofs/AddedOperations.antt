-- The operations that a valid set gets: their ids ascend, none twice, and there are few.
use Rattle.std.proofs.Common.{suc, ◌≡◌, ◌≤◌, ◌^◌, List, ◌++◌, [], ◌∷◌, length, ap, ◌∙◌, subst, refl, arith}
use Rattle.std.proofs.lemmas.List.{length-append}
use Rattle.std.proofs.lemmas.List.Sorted.{length_permutation}
use Rattle.am_types.specs.Members.{Member, changes}
use Rattle.am_types.specs.Operations.{DistinctIds, Operation, ascending, operation_cmp}
use Rattle.am_types.specs.ValidSets.{Valid}
use Rattle.am_types.proofs.Sorting.{IsPermutation-sorted_by}
use Rattle.am_laws.proofs.DistinctOperations.{distinct_ids_valid}
use Rattle.am_places.specs.Rising.{Rise}
use Rattle.am_places.proofs.Validity.{rise_sorted, sound_set}
use Rattle.am_merge.specs.Laws.{operations_of}
use Rattle.am_merge.proofs.StackLaw.{operations_both}

distinct_tail : (x : Operation) (A : List Operation) → DistinctIds (x ∷ A) → DistinctIds A
distinct_tail x A d = λ i j e p q. d (suc i) (suc j) e (omega arith) (omega arith)

distinct_behind : (A B : List Operation) → DistinctIds (A ++ B) → DistinctIds B
distinct_behind [] B d = d
distinct_behind (x ∷ A) B d = distinct_behind A B (distinct_tail x (A ++ B) d)

pub added_rise : (C E : List Member) → Valid (C ++ E) → Rise (ascending (operations_of E))
added_rise C E v = rise_sorted (operations_of E) (distinct_behind (operations_of C) (operations_of E) (subst DistinctIds (operations_both C E) (distinct_ids_valid (C ++ E) v)))

length_ascending : (A : List Operation) → length (ascending A) ≡ length A
length_ascending A = length_permutation A (ascending A) (IsPermutation-sorted_by operation_cmp A)

pub added_few : (C E : List Member) → Valid (C ++ E) → length (ascending (operations_of E)) ≤ 2 ^ 22
added_few C E v =
    let all = (sound_set (changes (C ++ E)) (record { set = C ++ E; are = refl; valid = v })).few in
    let a = length_ascending (operations_of (C ++ E)) in
    let b = length_ascending (operations_of E) in
    let c = ap length (operations_both C E) ∙ length-append (operations_of C) (operations_of E) in
    omega arith
