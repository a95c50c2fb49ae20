-- The closed set stays valid, and the waiting changes fine and apart.
use Rattle.std.proofs.Common.{◌≡◌, ◌≢◌, List, [], ◌∷◌, ◌++◌, get_or, Bool, true, false, cond, not, Option, Some, None, refl, sym, ◌∙◌, subst, inl, inr, All, Contains, IsPermutation, arith}
use Rattle.std.proofs.lemmas.Bool.{cases_Bool, both_ways, false_from_ne_true}
use Rattle.std.proofs.lemmas.List.Elements.{All-contains, All-head, All-tail, Contains-get_or, Contains-append_left, Contains-append_right, Contains-push_cases}
use Rattle.std.proofs.lemmas.List.Kept.{AllPairs-cons}
use Rattle.std.proofs.lemmas.List.Sorted.{IsPermutation-append_left}
use Rattle.am_types.specs.declared.Hash.{Hash}
use Rattle.am_types.specs.declared.Rejected.{Rejected}
use Rattle.am_types.specs.declared.Verdict.{Verdict}
use Rattle.am_types.specs.declared.Verdict.TheVariants.{Fits}
use Rattle.am_types.specs.Order.{hash_cmp, same}
use Rattle.am_types.specs.Same.{same_change}
use Rattle.am_types.specs.Members.{Member, DistinctHashes, member, holds, holds_deps}
use Rattle.am_types.specs.Verdicts.{verdict}
use Rattle.am_types.specs.ValidSets.{Joins, Valid}
use Rattle.am_types.specs.Deliver.{Sets, MayCome, AreStored, ready, admit_by, admit, receive, receive_by, settle, deliver}
use Rattle.am_types.proofs.Orders.{same_hash_itself}
use Rattle.am_laws.proofs.SettleLaws.{settle_settles}
use Rattle.am_laws.proofs.Listings.{settle-keeps, JoinInTurn-push}
use Rattle.am_delivery.specs.Laws.{StaysStored}
use Rattle.am_delivery.proofs.Lists.{Within-permutation, Within-permutation_back, all_found, find_none, any_none}
use Rattle.am_delivery.proofs.Members.{Once, Distinct, times-append, times_none, holds_it, holder, not_held_within, deps_within, distinct_from_once, once_from_distinct, distinct_filter, once_push, unique}
use Rattle.am_delivery.proofs.SameAncestors.{ancestors_within}
use Rattle.am_delivery.proofs.Reasons.{verdict_same}
use Rattle.am_delivery.proofs.Turns.{Good}
use Rattle.am_delivery.proofs.Parts.{good_valid, good_permutation}
use Rattle.am_delivery.proofs.Deliveries.{distinct_from_pairs, apart_from_once}
use Rattle.am_delivery.proofs.Settling.{first_ready, waits_still, fresh_push}

-- the verdict over a set is the same however the set is listed
pub verdict_permutation : (C D : List Member) → Good C → IsPermutation C D → (m : Member) → holds_deps C m.change ≡ true → verdict C m.change ≡ verdict D m.change
verdict_permutation C D g p m deps =
    let gd = good_permutation C D p g in
    let to = Within-permutation C D p in
    let back = Within-permutation_back C D p in
    let one = unique C (distinct_from_once C g.once) in
    let deps' = deps_within C D m.change to deps in
    verdict_same C D m.change g.seqs p
    (ancestors_within C one C D (λ n c. c) back gd.closed m.change.deps (λ h d. all_found (holds D) m.change.deps deps' h d))
    (ancestors_within C one D C back (λ n c. c) g.closed m.change.deps (λ h d. all_found (holds C) m.change.deps deps h d))

pub valid_push : (C : List Member) (m : Member) → Valid C → Joins C m → Valid (C ++ m ∷ [])
valid_push C m v j =
    let l = v.listing in
    let back = Within-permutation_back C l v.same in
    record {
      listing = l ++ m ∷ [];
      same = IsPermutation-append_left (m ∷ []) C l v.same;
      in_turn = JoinInTurn-push [] l m v.in_turn (record {
        fresh = not_held_within l C m.hash back j.fresh;
        deps = deps_within C l m.change (Within-permutation C l v.same) j.deps;
        fine = j.fine;
        hash = j.hash;
        fits = sym (verdict_permutation C l (good_valid C v) v.same m j.deps) ∙ j.fits;
      });
    }

pub record Steady (s : Sets) : Type 0 where
  pub valid : Valid s.closed
  pub may_come : (m : Member) → Contains s.waiting m → MayCome m
  pub fresh : (m : Member) → Contains s.waiting m → holds s.closed m.hash ≡ false
  pub distinct : Distinct s.waiting

pub steady_admit : (s : Sets) (m : Member) (ms : List Member) → ready s.closed s.waiting ≡ m ∷ ms → Steady s → Steady (admit m s)
steady_admit s m ms e y = go (verdict s.closed m.change) refl
  where
    here : Contains s.waiting m × (holds_deps s.closed m.change ≡ true)
    here = first_ready s.closed s.waiting m ms e

    go : (v : Verdict) → verdict s.closed m.change ≡ v → Steady (admit_by v m s)
    go Fits f = record {
      valid = valid_push s.closed m y.valid (record { hash = (y.may_come m here.0).hash; fresh = y.fresh m here.0; deps = here.1; fine = (y.may_come m here.0).fine; fits = f });
      may_come = λ n c. y.may_come n (waits_still m n s.waiting c).0;
      fresh = λ n c. let k = waits_still m n s.waiting c in fresh_push s.closed m n (y.fresh n k.0) k.1;
      distinct = distinct_filter (λ (k : Member). not (same hash_cmp m.hash k.hash)) s.waiting y.distinct;
    }
    go _ f = record {
      valid = y.valid;
      may_come = λ n c. y.may_come n (waits_still m n s.waiting c).0;
      fresh = λ n c. y.fresh n (waits_still m n s.waiting c).0;
      distinct = distinct_filter (λ (k : Member). not (same hash_cmp m.hash k.hash)) s.waiting y.distinct;
    }

-- a member whose hash no member has
pub absent : (C : List Member) (h : Hash) → member C h ≡ None → holds C h ≡ false
absent C h e = false_from_ne_true _ (λ t.
    let k = holder C h t in
    both_ways (same hash_cmp h k.0.hash) (any_none (λ (n : Member). same hash_cmp h n.hash) C (find_none (λ (n : Member). same hash_cmp h n.hash) C e) k.0 k.1)
    (subst (λ g. same hash_cmp h g ≡ true) (sym k.2) (same_hash_itself h)))

pub distinct_push : (W : List Member) (m : Member) → Distinct W → holds W m.hash ≡ false → Distinct (W ++ m ∷ [])
distinct_push W m d f = distinct_from_once (W ++ m ∷ []) (once_push W m (once_from_distinct W d) f)

pub steady_receive : (s : Sets) (m : Member) → MayCome m → Steady s → Steady (receive_by (member (s.closed ++ s.waiting) m.hash) m s)
steady_receive s m may_come y = go (member (s.closed ++ s.waiting) m.hash) refl
  where
    besides : (b : Bool) (R : List Rejected) → Steady (cond b s (record { closed = s.closed; waiting = s.waiting; rejected = R }))
    besides true R = y
    besides false R = record { valid = y.valid; may_come = y.may_come; fresh = y.fresh; distinct = y.distinct }

    go : (o : Option Member) → member (s.closed ++ s.waiting) m.hash ≡ o → Steady (receive_by o m s)
    go None f =
        let none = absent (s.closed ++ s.waiting) m.hash f in
        record {
          valid = y.valid;
          may_come = λ n c. elim (Contains-push_cases s.waiting m n c) [ inl d ↦ y.may_come n d | inr e ↦ subst MayCome e may_come ];
          fresh = λ n c. elim (Contains-push_cases s.waiting m n c) [
            | inl d ↦ y.fresh n d
            | inr e ↦ subst (λ (k : Member). holds s.closed k.hash ≡ false) e (not_held_within s.closed (s.closed ++ s.waiting) m.hash (λ k d. Contains-append_left s.closed s.waiting k d) none)
          ];
          distinct = distinct_push s.waiting m y.distinct (not_held_within s.waiting (s.closed ++ s.waiting) m.hash (λ k d. Contains-append_right s.closed s.waiting k d) none);
        }
    go (Some held) f = besides (same_change held.change m.change) _

pub steady_all : (s : Sets) (L : List Member) → All MayCome L → Steady s → Steady (receive s L)
steady_all s [] a y = y
steady_all s (m ∷ L) a y =
    steady_all (receive_by (member (s.closed ++ s.waiting) m.hash) m s) L (All-tail MayCome m L a)
    (steady_receive s m (All-head MayCome m L a) y)

pub once_append : (C W : List Member) → Once C → Once W → ((m : Member) → Contains W m → holds C m.hash ≡ false) → Once (C ++ W)
once_append C W o p fresh h =
    let e = times-append h C W in
    let a = o h in
    let b = p h in
    elim (cases_Bool (holds W h)) [
      | inl t ↦ let k = holder W h t in let z = times_none h C (subst (λ g. holds C g ≡ false) k.2 (fresh k.0 k.1)) in omega arith
      | inr f ↦ let z = times_none h W f in omega arith
    ]

pub pairs_from_distinct : (C : List Member) → Distinct C → DistinctHashes C
pairs_from_distinct [] d = λ i j e lt l. absurd (omega arith)
pairs_from_distinct (m ∷ C) d =
    AllPairs-cons (λ (m n : Member). m.hash ≢ n.hash) m C
    (λ k e l. λ f. both_ways (holds C m.hash) d.0 (subst (λ h. holds C h ≡ true) (sym f) (holds_it C (get_or C k e) (Contains-get_or C k e l))))
    (pairs_from_distinct C d.1)

pub steady_from : (C W : List Member) (R : List Rejected) → AreStored C W → Steady (record { closed = C; waiting = W; rejected = R })
steady_from C W R s =
    let once : Once (C ++ W) = once_from_distinct (C ++ W) (distinct_from_pairs (C ++ W) s.hashes) in
    record {
      valid = s.valid;
      may_come = λ m c. All-contains MayCome W m s.waiting c;
      fresh = apart_from_once C W once;
      distinct = distinct_from_once W (λ h. let f = times-append h C W in let l = once h in omega arith);
    }

pub stays_stored : StaysStored
unfolding deliver
stays_stored C W L s fine =
    let start : Sets = record { closed = C; waiting = W; rejected = [] } in
    let t = settle (receive start L) in
    let y = settle-keeps Steady steady_admit (receive start L) (steady_all start L fine (steady_from C W [] s)) in
    record {
      valid = y.valid;
      waiting = λ k d l. y.may_come (get_or t.waiting k d) (Contains-get_or t.waiting k d l);
      hashes = pairs_from_distinct (t.closed ++ t.waiting) (distinct_from_once _ (once_append t.closed t.waiting (good_valid t.closed y.valid).once (once_from_distinct t.waiting y.distinct) y.fresh));
      settled = settle_settles (receive start L);
    }
