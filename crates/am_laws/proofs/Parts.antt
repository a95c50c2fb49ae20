-- The elements of a part of some operations are those of all, without the others.
use Rattle.std.proofs.Common.{◌≡◌, List, filter, Bool, Contains}
use Rattle.am_laws.specs.Records.{OpId, ObjId}
use Rattle.am_types.specs.Operations.{Operation, ascending, operation_cmp}
use Rattle.am_types.specs.Elements.{elements, inserts_into, IsAnchored, part, RespectsReferences}
use Rattle.am_laws.proofs.Subsequence.{elements-filter}
use Rattle.std.proofs.lemmas.List.Elements.{recursion_from_All}
use Rattle.std.proofs.lemmas.List.Sorted.{Contains-permutation, IsPermutation-sym}
use Rattle.am_laws.proofs.Ancestry.{Contains-from_filter}
use Rattle.am_types.proofs.Lists.{all_of}
use Rattle.am_types.proofs.Sorting.{IsPermutation-sorted_by}

from_ascending : (S : List Operation) (x : Operation) → Contains (ascending S) x → Contains S x
from_ascending S x c = Contains-permutation (ascending S) S x (IsPermutation-sym S (ascending S) (IsPermutation-sorted_by operation_cmp S)) c

-- the elements of a part
pub elements_part : (q : OpId → Bool) (S : List Operation) → RespectsReferences q S → (o : ObjId) → elements (part q S) o ≡ filter q (elements S o)
elements_part q S anchored o =
    elements-filter q S o (recursion_from_All (IsAnchored q) (filter (inserts_into o) (ascending S))
    (all_of (IsAnchored q) (filter (inserts_into o) (ascending S)) (λ x c. anchored x (from_ascending S x (Contains-from_filter (inserts_into o) (ascending S) x c).0))))
