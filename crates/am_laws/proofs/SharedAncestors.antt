-- The ancestors in a set and in a part of it.
use Rattle.std.proofs.Common.{◌≡◌, ◌≢◌, List, true, refl, subst, All, Contains, IsPermutation, filter}
use Rattle.std.proofs.lemmas.List.Elements.{All-contains}
use Rattle.std.proofs.lemmas.List.Kept.{AllPairs-filter}
use Rattle.std.proofs.lemmas.List.Sorted.{IsPermutation-sym, IsPermutation-trans, Contains-permutation}
use Rattle.am_laws.specs.Records.{Hash}
use Rattle.am_types.specs.Order.{hash_cmp, among}
use Rattle.am_types.specs.Operations.{all_operations}
use Rattle.am_types.specs.Members.{Member, changes, holds, DistinctHashes}
use Rattle.am_types.specs.Ancestors.{is_named, ancestor_hashes, ancestors}
use Rattle.am_types.specs.ValidSets.{Valid}
use Rattle.am_laws.specs.Laws.{SeesAlike}
use Rattle.am_laws.proofs.Agreement.{ancestors_shared, held_member}
use Rattle.am_laws.proofs.Ancestry.{ancestors_named, ancestors_closed, ancestors_least, Contains-filter, Contains-from_filter}
use Rattle.am_laws.proofs.DistinctIds.{ancestor_is_member, distinct_ids_in}
use Rattle.am_laws.proofs.Growth.{among_at, found_among, filter_agree_on, same_answers}
use Rattle.am_laws.proofs.Listed.{holds_own}
use Rattle.am_laws.proofs.ListingLaws.{operations-permutation}
use Rattle.am_types.proofs.Lists.{all_of}
use Rattle.am_types.proofs.Permuted.{replay-permutation}
use Rattle.am_laws.proofs.Rules.{distinct_hashes}
use Rattle.am_laws.proofs.SameMembers.{same_members, no_repeat}
use Rattle.am_laws.proofs.ValidSetLaws.{grounds_valid}

-- ---- their order

pub ancestors_keep_order : (C : List Member) (hs : List Hash) → ancestors C hs ≡ filter (λ m. holds (ancestors C hs) m.hash) C
unfolding ancestors
ancestors_keep_order C hs =
    let named = is_named (ancestor_hashes C hs) in
    let A : List Member = ancestors C hs in
    filter_agree_on named (λ m. holds A m.hash) C
    (all_of (λ m. named m ≡ holds A m.hash) C (λ m c.
    same_answers (named m) (holds A m.hash)
    (λ t. holds_own A m (Contains-filter named C m c t))
    (λ t. let n = held_member A m.hash t in
    subst (λ h. among hash_cmp (ancestor_hashes C hs) h ≡ true) n.2 (Contains-from_filter named C n.0 n.1).1)))

-- ---- in a part

-- the ancestors in a part are ancestors in the whole
pub ancestors_of_part : (C D : List Member) (hs : List Hash) → ((m : Member) → Contains C m → Contains D m) → (m : Member) → Contains (ancestors C hs) m → Contains (ancestors D hs) m
unfolding ancestors
ancestors_of_part C D hs within m c =
    let Q : Hash → Type 0 = λ h. (n : Member) → Contains C n → n.hash ≡ h → Contains (ancestors D hs) n in
    let all : All Q (ancestor_hashes C hs) =
    ancestors_least C Q
    (λ n cn q k d l x cx e. ancestors_closed D hs n x (q n cn refl) (among_at n.change.deps x.hash d k l e) (within x cx))
    hs (λ k d l n cn e. ancestors_named D hs n (within n cn) (among_at hs n.hash d k l e)) in
    let is = Contains-from_filter (is_named (ancestor_hashes C hs)) C m c in
    All-contains Q (ancestor_hashes C hs) m.hash all (found_among _ m.hash is.1) m is.0 refl

distinct_ancestors : (C : List Member) (hs : List Hash) → Valid C → DistinctHashes (ancestors C hs)
unfolding ancestors
distinct_ancestors C hs v = AllPairs-filter (λ (m n : Member). m.hash ≢ n.hash) (is_named (ancestor_hashes C hs)) C (distinct_hashes C v)

-- ---- the same ancestors

module _ (C D : List Member) (hs : List Hash) (vc : Valid C) (vd : Valid D) where
  sees_alike : ((m : Member) → Contains (ancestors C hs) m → Contains (ancestors D hs) m) → ((m : Member) → Contains (ancestors D hs) m → Contains (ancestors C hs) m) → SeesAlike C D hs
  sees_alike to back =
      let same : IsPermutation (ancestors C hs) (ancestors D hs) =
      same_members (ancestors C hs) (ancestors D hs) (no_repeat (ancestors C hs) (distinct_ancestors C hs vc)) (no_repeat (ancestors D hs) (distinct_ancestors D hs vd)) to back in
      record {
        members = same;
        visible = replay-permutation (all_operations (changes (ancestors C hs))) (all_operations (changes (ancestors D hs)))
            (distinct_ids_in C (ancestors C hs) (grounds_valid C vc).facts (ancestor_is_member C hs)) (operations-permutation (ancestors C hs) (ancestors D hs) same);
      }

  pub views_stay : All (Contains D) C → All (λ h. holds C h ≡ true) hs → SeesAlike C D hs
  views_stay within held =
      let inside : (m : Member) → Contains C m → Contains D m = λ m c. All-contains (Contains D) C m within c in
      let gc = grounds_valid C vc in
      let gd = grounds_valid D vd in
      sees_alike (ancestors_of_part C D hs inside)
      (ancestors_shared D C hs (λ m n cm cn e. gd.facts.one_hash m n cm (inside n cn) e) gc.facts.closed held)

valid_permuted : (C D : List Member) → Valid C → IsPermutation C D → Valid D
valid_permuted C D v p = record { listing = v.listing; same = IsPermutation-trans D C v.listing (IsPermutation-sym C D p) v.same; in_turn = v.in_turn }

pub listings_see_alike : (C D : List Member) → Valid C → IsPermutation C D → (hs : List Hash) → SeesAlike C D hs
listings_see_alike C D v p hs =
    sees_alike C D hs v (valid_permuted C D v p)
    (ancestors_of_part C D hs (λ m c. Contains-permutation C D m p c))
    (ancestors_of_part D C hs (λ m c. Contains-permutation D C m (IsPermutation-sym C D p) c))
