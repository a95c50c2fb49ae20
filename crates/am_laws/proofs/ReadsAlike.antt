-- What is read off a valid set doesn't depend on how it is listed.
use Rattle.std.proofs.Common.{List, map, IsPermutation}
use Rattle.am_types.specs.Operations.{all_operations}
use Rattle.am_types.specs.Members.{Member, changes}
use Rattle.am_types.specs.ValidSets.{Valid}
use Rattle.am_types.specs.Documents.{index, metas, unless_empty, table}
use Rattle.am_laws.specs.Laws.{ReadsAlike}
use Rattle.am_types.proofs.Permuted.{elements-permutation, replay-permutation, rows-permutation}
use Rattle.am_laws.proofs.ValidSetLaws.{grounds_valid}
use Rattle.am_laws.proofs.ListingLaws.{heads-permutation, order-permutation, used_actors-permutation, operations-permutation, one_per_id}
use Rattle.am_laws.proofs.SharedAncestors.{listings_see_alike}

pub reads_alike : (C D : List Member) → Valid C → IsPermutation C D → ReadsAlike C D
unfolding table
reads_alike C D v p =
    let distinct = one_per_id C v in
    let same = operations-permutation C D p in
    let rows_same = rows-permutation (all_operations (changes C)) (all_operations (changes D)) distinct same in
    let order_same = order-permutation C D (grounds_valid C v).facts p in
    let heads_same = heads-permutation C D p in
    record {
      elements = λ o. elements-permutation (all_operations (changes C)) (all_operations (changes D)) o distinct same;
      replay = replay-permutation (all_operations (changes C)) (all_operations (changes D)) distinct same;
      rows = rows_same;
      heads = heads_same;
      order = order_same;
      at = listings_see_alike C D v p;
      table = λ i. record {
        actors = used_actors-permutation C D p i;
        heads = heads_same i;
        metas = metas (order_same i);
        rows = rows_same i;
        suffix = unless_empty (map (index (order_same i)) (heads_same i));
      };
    }
