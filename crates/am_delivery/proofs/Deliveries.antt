-- Deliveries of what is new, and the laws of parts and wholes.
use Rattle.std.proofs.Common.{ℕ, zero, suc, ◌≡◌, ◌<◌, ◌≤◌, ◌+◌, List, [], ◌∷◌, ◌++◌, length, true, false, None, refl, sym, ap, ◌∙◌, subst, inl, inr, Contains, IsPermutation, arith}
use Rattle.std.proofs.lemmas.Bool.{both_ways, false_from_ne_true}
use Rattle.std.proofs.lemmas.List.{append-nil, append_assoc}
use Rattle.std.proofs.lemmas.List.Elements.{Contains-append_left, Contains-append_right, Contains-append_cases}
use Rattle.std.proofs.lemmas.List.Sorted.{IsPermutation-sym, IsPermutation-trans}
use Rattle.am_types.specs.declared.Hash.{Hash}
use Rattle.am_types.specs.declared.Rejected.{Rejected}
use Rattle.am_types.specs.Order.{hash_cmp, same}
use Rattle.am_types.specs.Members.{Member, DistinctHashes, member, holds, holds_deps}
use Rattle.am_types.specs.Ancestors.{ancestors}
use Rattle.am_types.specs.ValidSets.{JoinInTurn, Valid}
use Rattle.am_types.specs.Deliver.{Sets, receive, receive_by, settle, deliver}
use Rattle.am_types.proofs.Orders.{same_hash-true}
use Rattle.am_delivery.specs.Laws.{Leaves, FitsInEveryListing, ComesBack, PartIsValid, RestCompletes, BothComeBack}
use Rattle.am_delivery.proofs.Lists.{Within, Contains-none, none_any, none_find, Within-permutation, Within-permutation_back}
use Rattle.am_delivery.proofs.Members.{Once, Distinct, times, times-append, none_times, holds_it, holder, deps_within, distinct_from_once, once_from_distinct, once_permutation, fresh_from_once}
use Rattle.am_delivery.proofs.Turns.{Good, good, good_none, turn_from_deps}
use Rattle.am_delivery.proofs.Parts.{good_valid, ancestors_valid}
use Rattle.am_delivery.proofs.SameAncestors.{ancestor_is}
use Rattle.am_delivery.proofs.Settling.{Going, none_ready, settles_to}

abbrev store : List Member → List Member → List Rejected → Sets
store C W R = record { closed = C; waiting = W; rejected = R }

-- what is new joins the waiting set
pub receive_new : (C W : List Member) (R : List Rejected) (L : List Member) → Once ((C ++ W) ++ L) → receive (store C W R) L ≡ store C (W ++ L) R
receive_new C W R [] o = ap (λ w. store C w R) (sym (append-nil W))
receive_new C W R (m ∷ L) o =
    let fresh = fresh_from_once (C ++ W) m L o in
    let none : member (C ++ W) m.hash ≡ None =
    none_find (λ (n : Member). same hash_cmp m.hash n.hash) (C ++ W) (none_any (λ (n : Member). same hash_cmp m.hash n.hash) (C ++ W)
    (λ n c. false_from_ne_true _ (λ t. both_ways (holds (C ++ W) m.hash) fresh (subst (λ h. holds (C ++ W) h ≡ true) (sym (same_hash-true m.hash n.hash t)) (holds_it (C ++ W) n c))))) in
    let regroup = sym (append_assoc (C ++ W) (m ∷ []) L) ∙ ap (λ k. k ++ L) (append_assoc C W (m ∷ [])) in
    let again : receive (store C (W ++ m ∷ []) R) L ≡ store C ((W ++ m ∷ []) ++ L) R = receive_new C (W ++ m ∷ []) R L (subst Once regroup o) in
    ap (λ f. receive (receive_by f m (store C W R)) L) none ∙ again ∙ ap (λ w. store C w R) (append_assoc W (m ∷ []) L)

pub apart_from_once : (C L : List Member) → Once (C ++ L) → (n : Member) → Contains L n → holds C n.hash ≡ false
apart_from_once C L o n c =
    let f = times-append n.hash C L in
    let l = o n.hash in
    let some : times n.hash L ≡ 0 → ⊥ = λ e. both_ways (holds L n.hash) (none_times n.hash L e) (holds_it L n c) in
    let all : times n.hash C ≡ 0 = gone (times n.hash C) (times n.hash L) (omega arith) some in
    none_times n.hash C all
  where
    gone : (a b : ℕ) → a + b ≤ 1 → (b ≡ 0 → ⊥) → a ≡ 0
    gone a zero h s = absurd (s refl)
    gone a (suc b) h s = omega arith

-- where a part of S is closed, and the rest and W come
pub delivers_rest :
    (S W : List Member) → JoinInTurn [] S → ((m : Member) → Contains W m → holds_deps S m.change ≡ false) → (C L : List Member) → Good C → Within C S → IsPermutation (S ++ W) (C ++ L) → Once (S ++ W)
    → Leaves (deliver C [] L) S W
unfolding deliver
delivers_rest S W turn lack C L g within p once =
    let both : Once (C ++ L) = once_permutation (S ++ W) (C ++ L) p once in
    let arrive : Once ((C ++ []) ++ L) = subst (λ l. Once (l ++ L)) (sym (append-nil C)) both in
    let came : receive (store C [] []) L ≡ store C L [] = receive_new C [] [] L arrive in
    let to = Within-permutation (S ++ W) (C ++ L) p in
    let back = Within-permutation_back (S ++ W) (C ++ L) p in
    let part : (h : Hash) → times h L ≤ 1 = λ h. let f = times-append h C L in let l = both h in omega arith in
    let rest : (h : Hash) → times h W ≤ 1 = λ h. let f = times-append h S W in let l = once h in omega arith in
    let start : Going S W (store C L []) = record {
      good = g;
      within = within;
      waits = λ n c. Contains-append_cases S W n (back n (Contains-append_right C L n c));
      all = λ n c. Contains-append_cases C L n (to n (Contains-append_left S W n c));
      others = λ n c. elim (Contains-append_cases C L n (to n (Contains-append_right S W n c))) [
        | inl k ↦ absurd (both_ways (holds_deps S n.change) (lack n c) (deps_within C S n.change within (g.closed n k)))
        | inr k ↦ k
      ];
      fresh = apart_from_once C L both;
      distinct = distinct_from_once L part;
      rejected = refl;
    } in
    subst (λ s. Leaves (settle s) S W) (sym came) (settles_to S W turn lack (distinct_from_once W rest) (store C L []) start)

-- ---- the laws

pub fits_in_every_listing : FitsInEveryListing
fits_in_every_listing S L v p d =
    let gs = good v.listing v.in_turn in
    let to : IsPermutation v.listing L = IsPermutation-trans v.listing S L (IsPermutation-sym S v.listing v.same) p in
    turn_from_deps v.listing v.in_turn L (Within-permutation_back v.listing L to) (once_permutation v.listing L to gs.once) d

-- the other laws speak of S, and these of its listing
module _ (S : List Member) (v : Valid S) where
  from_listing : (s : Sets) (W : List Member) → Leaves s v.listing W → Leaves s S W
  from_listing s W l = record { closed = IsPermutation-trans S v.listing s.closed v.same l.closed; waiting = l.waiting; rejected = l.rejected }

  pub completes : (C L : List Member) → Good C → Within C S → IsPermutation S (C ++ L) → Leaves (deliver C [] L) S []
  completes C L g w p =
      let l = v.listing in
      let back = IsPermutation-sym S l v.same in
      let same : IsPermutation (l ++ []) (C ++ L) = subst (λ k. IsPermutation k (C ++ L)) (sym (append-nil l)) (IsPermutation-trans l S (C ++ L) back p) in
      from_listing (deliver C [] L) [] (delivers_rest l [] v.in_turn (λ m c. absurd (Contains-none m c)) C L g (λ n c. Within-permutation S l v.same n (w n c)) same
      (subst Once (sym (append-nil l)) (good l v.in_turn).once))

pub comes_back : ComesBack
comes_back S L v p = completes S v [] L good_none (λ n c. absurd (Contains-none n c)) p

pub part_is_valid : PartIsValid
part_is_valid S hs v = ancestors_valid S hs v

pub rest_completes : RestCompletes
rest_completes S hs rest v p = completes S v (ancestors S hs) rest (good_valid (ancestors S hs) (ancestors_valid S hs v)) (λ n c. (ancestor_is S hs n c).0) p

pub distinct_from_pairs : (C : List Member) → DistinctHashes C → Distinct C
distinct_from_pairs [] d = tt
distinct_from_pairs (m ∷ C) d = (
  false_from_ne_true _ (λ t.
      let n = holder C m.hash t in
      let k = n.1.0 in
      let l : suc k < length (m ∷ C) = let h = n.1.1 in omega arith in
      d 0 (suc k) n.0 (omega arith) l (sym n.2 ∙ ap (λ (x : Member). x.hash) (sym n.1.2))),
  distinct_from_pairs C (λ i j e lt l. d (suc i) (suc j) e (omega arith) (omega arith)),
)

pub both_come_back : BothComeBack
both_come_back C W L v settled d p =
    let l = v.listing in
    let to = Rattle.std.proofs.lemmas.List.Sorted.IsPermutation-append_left W C l v.same in
    let none = none_ready C W settled in
    let lack : (m : Member) → Contains W m → holds_deps l m.change ≡ false =
    λ m c. false_from_ne_true _ (λ t. both_ways (holds_deps C m.change) (none m c) (deps_within l C m.change (Within-permutation_back C l v.same) t)) in
    from_listing C v (deliver [] [] L) W
    (delivers_rest l W v.in_turn lack [] L good_none (λ n c. absurd (Contains-none n c)) (IsPermutation-trans (l ++ W) (C ++ W) L (IsPermutation-sym (C ++ W) (l ++ W) to) p)
    (once_permutation (C ++ W) (l ++ W) to (once_from_distinct (C ++ W) (distinct_from_pairs (C ++ W) d))))
