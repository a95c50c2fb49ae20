-- The laws, put together from the lemmas.
use Rattle.std.proofs.Common.{◌≡◌, List, true, refl, ap, ◌∙◌, subst, All, Contains, get_or}
use Rattle.std.proofs.lemmas.List.Elements.{All-contains, All-contains_itself}
use Rattle.am_laws.specs.Records.{Hash}
use Rattle.am_types.specs.Order.{id_cmp, hash_cmp}
use Rattle.am_types.specs.Same.{same_change}
use Rattle.am_types.specs.Members.{Member}
use Rattle.am_types.specs.Ancestors.{is_named, ancestor_hashes, ancestors, HasNamed, HasDependencies}
use Rattle.am_types.specs.Clocks.{covers}
use Rattle.am_laws.specs.Laws as law
use Rattle.am_types.proofs.Orders.{id_total, id_exact, hash_total, hash_exact}
use Rattle.am_types.proofs.Sorting.{sorted_by-permutation, IsPermutation-sorted_by}
use Rattle.am_types.proofs.Rising.{Rises-sorted_by, IsSorted-rises}
use Rattle.am_types.proofs.Permuted.{ascending-permutation}
use Rattle.am_types.proofs.NumberLaws.{unsigned_is_shortest, signed_is_shortest}
use Rattle.am_types.proofs.SameLaws.{same_change-true, change_itself}
use Rattle.am_laws.proofs.Ancestry.{ancestors_named, ancestors_closed, ancestors_least, Contains-from_filter}
use Rattle.am_laws.proofs.Growth.{among_at, found_among, ancestors_stay}
use Rattle.am_laws.proofs.VerdictLaws.{fits_by, fits_from, answers_first}
use Rattle.am_laws.proofs.FirstBad.{finds_first_bad}
use Rattle.am_laws.proofs.References.{refers, stands}
use Rattle.am_laws.proofs.Following.{follow_references}
use Rattle.am_laws.proofs.SettleLaws.{settle_settles, settle_idle, settle_taken}
use Rattle.am_laws.proofs.Listings.{settle_sound}
use Rattle.am_laws.proofs.ReadsAlike as listing
use Rattle.am_laws.proofs.SharedAncestors as shared
use Rattle.am_laws.proofs.LeastReady.{takes_least}
use Rattle.am_laws.proofs.Depths as depths
use Rattle.am_laws.proofs.Parts.{elements_part}
use Rattle.am_laws.proofs.Covered.{operations_part, anchored}
use Rattle.am_laws.proofs.ValidSetLaws.{grounds_valid}
use Rattle.am_laws.proofs.DistinctIds.{ancestor_is_member}
use Rattle.am_laws.proofs.DistinctOperations.{distinct_ids_valid}
use Rattle.am_laws.proofs.Rules.{keeps_rules}
use Rattle.am_types.specs.Elements.{elements}

pub orders_are_strict : law.OrdersAreStrict
orders_are_strict = record { ids = record { total = id_total; ties = id_exact }; hashes = record { total = hash_total; ties = hash_exact } }

pub sorting_is_free : law.SortingIsFree
sorting_is_free = (
  record {
    same = IsPermutation-sorted_by id_cmp;
    in_order = λ xs. IsSorted-rises id_total _ (Rises-sorted_by id_total xs);
    once = λ xs ys p. sorted_by-permutation id_total (λ _. Unit {0}) (λ x y _ _ e. id_exact x y e) xs ys (λ k d l. tt) p;
  },
  record {
    same = IsPermutation-sorted_by hash_cmp;
    in_order = λ xs. IsSorted-rises hash_total _ (Rises-sorted_by hash_total xs);
    once = λ xs ys p. sorted_by-permutation hash_total (λ _. Unit {0}) (λ x y _ _ e. hash_exact x y e) xs ys (λ k d l. tt) p;
  },
  ascending-permutation,
)

pub numbers_are_shortest : law.NumbersAreShortest
numbers_are_shortest = record { unsigned = unsigned_is_shortest; signed = signed_is_shortest }

pub same_is_equal : law.SameIsEqual
same_is_equal a b = (same_change-true a b, λ e. subst (λ c. same_change a c ≡ true) e (change_itself a))

pub ancestors_are_least : law.AncestorsAreLeast
unfolding ancestors
ancestors_are_least C hs = record {
  within = λ k d l. ancestor_is_member C hs (get_or (ancestors C hs) k d) (All-contains_itself (ancestors C hs) k d l);
  named = ancestors_named C hs;
  dependencies = λ m e cm ce t. ancestors_closed C hs m e cm t ce;
  least = λ B named deps k d l. inside B named deps (get_or (ancestors C hs) k d) (All-contains_itself (ancestors C hs) k d l);
}
  where
    inside : (B : List Member) → HasNamed C hs B → HasDependencies C B → (m : Member) → Contains (ancestors C hs) m → Contains B m
    inside B named deps m c =
        let Q : Hash → Type 0 = λ h. (n : Member) → Contains C n → n.hash ≡ h → Contains B n in
        let all : All Q (ancestor_hashes C hs) =
        ancestors_least C Q
        (λ m cm q k d l n cn e. deps m n (q m cm refl) cn (among_at m.change.deps n.hash d k l e))
        hs (λ k d l n cn e. named n cn (among_at hs n.hash d k l e)) in
        let is = Contains-from_filter (is_named (ancestor_hashes C hs)) C m c in
        All-contains Q (ancestor_hashes C hs) m.hash all (found_among _ m.hash is.1) m is.0 refl

pub fits_exactly : law.FitsExactly
fits_exactly C c = (fits_by C c, fits_from C c)

pub verdicts_are_first : law.VerdictsAreFirst
verdicts_are_first = answers_first

pub first_bad_is_least : law.FirstBadIsLeast
first_bad_is_least = finds_first_bad

pub ids_are_distinct : law.IdsAreDistinct
ids_are_distinct = distinct_ids_valid

pub references_are_there : law.ReferencesAreThere
references_are_there C v x c = record {
  element = refers C (grounds_valid C v) x c;
  insertion = λ t. stands C (grounds_valid C v) x c t x.op.key refl;
}

pub elements_follow_references : law.ElementsFollowReferences
elements_follow_references = follow_references

pub valid_sets_keep_rules : law.ValidSetsKeepRules
valid_sets_keep_rules = keeps_rules

pub settles_in_turn : law.SettlesInTurn
settles_in_turn = record { takes_least = takes_least; goes_on = settle_taken; stays = settle_idle; ends = settle_settles }

pub settling_keeps_order : law.SettlingKeepsOrder
settling_keeps_order s turn waits = (settle_sound s (record { listed = turn; waiting = waits })).listed

pub listing_is_free : law.ListingIsFree
listing_is_free = listing.reads_alike

pub depth_counts : law.DepthCounts
depth_counts = depths.depth_counts

pub elements_of_part : law.ElementsOfPart
elements_of_part = elements_part

pub ancestors_are_read : law.AncestorsAreRead
ancestors_are_read C v hs =
    let g = grounds_valid C v in
    record {
      operations = operations_part C g hs;
      respects = anchored C g hs;
      elements = λ o. ap (λ A. elements A o) (operations_part C g hs) ∙ elements_part (covers (ancestors C hs)) _ (anchored C g hs) o;
    }

pub ancestors_keep_order : law.AncestorsKeepOrder
ancestors_keep_order = shared.ancestors_keep_order

pub views_stay : law.ViewsStay
views_stay C D hs vc vd within held = shared.views_stay C D hs vc vd within held

pub ancestors_stay_valid : law.AncestorsStay
ancestors_stay_valid C E hs v held apart = ancestors_stay C E hs (grounds_valid C v).facts.closed held apart
