-- How the two sets are listed doesn't matter to a delivery.
use Rattle.std.proofs.Common.{ℕ, zero, suc, ◌≡◌, List, [], ◌∷◌, ◌++◌, length, filter, Bool, true, false, cond, not, Option, Some, None, refl, sym, ap, ◌∙◌, subst, inl, inr, All, Contains, IsPermutation}
use Rattle.std.specs.Cmp.{IsTotalOrder}
use Rattle.std.proofs.lemmas.Cmp.{on_total}
use Rattle.std.proofs.lemmas.List.Elements.{All-head, All-tail, All-contains_itself, filter_agree}
use Rattle.std.proofs.lemmas.List.Sorted.{IsPermutation-append, IsPermutation-append_left, length_permutation}
use Rattle.am_types.specs.declared.Rejected.{Rejected}
use Rattle.am_types.specs.declared.Verdict.{Verdict}
use Rattle.am_types.specs.declared.Why.{Why}
use Rattle.am_types.specs.declared.Why.TheVariants as reasons
use Rattle.am_types.specs.declared.Verdict.TheVariants.{Fits, SeqClash, SeqGap, StartLow, BadReference, Full}
use Rattle.am_types.specs.declared.Change.{Change}
use Rattle.am_types.specs.Order.{hash_cmp, same, sorted_by}
use Rattle.am_types.specs.Same.{same_change}
use Rattle.am_types.specs.Members.{Member, member, holds_deps}
use Rattle.am_types.specs.Verdicts.{verdict}
use Rattle.am_types.specs.Deliver.{Sets, MayCome, Alike, turned_away, ready, admit_by, admit, step, steps, receive, receive_by, settle, deliver}
use Rattle.am_types.proofs.Orders.{hash_total, hash_exact, same_hash-true}
use Rattle.am_laws.proofs.Ancestry.{Contains-filter, Contains-from_filter}
use Rattle.am_types.proofs.Sorting.{sorted_by-permutation}
use Rattle.am_laws.proofs.SettleLaws.{by_hash, first_or_none, step_idle, step_first}
use Rattle.am_delivery.specs.Laws.{ListingIsFree}
use Rattle.am_delivery.proofs.Lists.{Within-permutation, Within-permutation_back, same_members, same_truth}
use Rattle.am_delivery.proofs.Members.{Distinct, Unique, deps_within, distinct_from_once, once_from_distinct, once_permutation, distinct_filter, no_repeat, unique}
use Rattle.am_delivery.proofs.Reasons.{find_same}
use Rattle.am_delivery.proofs.Parts.{good_valid}
use Rattle.am_delivery.proofs.Settling.{first_ready}
use Rattle.am_delivery.proofs.Steady.{Steady, steady_admit, steady_receive, steady_all, steady_from, verdict_permutation, once_append}

pub by_total : IsTotalOrder by_hash
by_total = on_total (λ (m : Member). m.hash) hash_total

filter_permutation : (p : Member → Bool) (V W : List Member) → Distinct V → IsPermutation V W → IsPermutation (filter p V) (filter p W)
filter_permutation p V W d h =
    let dw = distinct_from_once W (once_permutation V W h (once_from_distinct V d)) in
    same_members (filter p V) (filter p W) (no_repeat _ (distinct_filter p V d)) (no_repeat _ (distinct_filter p W dw))
    (λ n c. let f = Contains-from_filter p V n c in Contains-filter p W n (Within-permutation V W h n f.0) f.1)
    (λ n c. let f = Contains-from_filter p W n c in Contains-filter p V n (Within-permutation_back V W h n f.0) f.1)

-- in a list of distinct hashes the least first, however it was listed
pub sorted_permutation : (V W : List Member) → Distinct V → IsPermutation V W → sorted_by by_hash W ≡ sorted_by by_hash V
sorted_permutation V W d h =
    let one = unique V d in
    sorted_by-permutation by_total (Contains V) (λ x y cx cy e. one x y cx cy (hash_exact x.hash y.hash e)) V W (All-contains_itself V) h

pub deps_same : (C D : List Member) → IsPermutation C D → (c : Change) → holds_deps C c ≡ holds_deps D c
deps_same C D p c = same_truth _ _ (deps_within C D c (Within-permutation C D p)) (deps_within D C c (Within-permutation_back C D p))

pub ready_same : (C D V W : List Member) → IsPermutation C D → Distinct V → IsPermutation V W → ready C V ≡ ready D W
ready_same C D V W p d q =
    let agree : filter (λ (m : Member). holds_deps C m.change) W ≡ filter (λ (m : Member). holds_deps D m.change) W = filter_agree (λ (m : Member). holds_deps C m.change) (λ (m : Member). holds_deps D m.change) (λ m. deps_same C D p m.change) W in
    sym (sorted_permutation (filter (λ (m : Member). holds_deps C m.change) V) (filter (λ (m : Member). holds_deps C m.change) W) (distinct_filter (λ (m : Member). holds_deps C m.change) V d) (filter_permutation (λ (m : Member). holds_deps C m.change) V W d q))
    ∙ ap (sorted_by by_hash) agree

away_alike : (why : Why) (m : Member) (s t : Sets) → Distinct s.waiting → Alike s t → Alike (turned_away why m s) (turned_away why m t)
away_alike why m s t d a = record {
  closed = a.closed;
  waiting = filter_permutation (λ (k : Member). not (same hash_cmp m.hash k.hash)) s.waiting t.waiting d a.waiting;
  rejected = ap (λ (r : List Rejected). r ++ record { hash = m.hash; why = why } ∷ []) a.rejected;
}

alike_by : (v : Verdict) (m : Member) (s t : Sets) → Distinct s.waiting → Alike s t → Alike (admit_by v m s) (admit_by v m t)
alike_by Fits m s t d a = record {
  closed = IsPermutation-append_left (m ∷ []) s.closed t.closed a.closed;
  waiting = filter_permutation (λ (k : Member). not (same hash_cmp m.hash k.hash)) s.waiting t.waiting d a.waiting;
  rejected = a.rejected;
}
alike_by (SeqClash h) m s t d a = away_alike (reasons.SeqClash h) m s t d a
alike_by SeqGap m s t d a = away_alike reasons.SeqGap m s t d a
alike_by (StartLow h) m s t d a = away_alike (reasons.StartLow h) m s t d a
alike_by (BadReference i) m s t d a = away_alike (reasons.BadReference i) m s t d a
alike_by (Full limit) m s t d a = away_alike (reasons.Full limit) m s t d a

steps_alike : (n : ℕ) (s t : Sets) → Steady s → Alike s t → Alike (steps n s) (steps n t)
steps_alike zero s t y a = a
steps_alike (suc n) s t y a =
    let same_ready = ready_same s.closed t.closed s.waiting t.waiting a.closed y.distinct a.waiting in
    elim (first_or_none (ready s.closed s.waiting)) [
      | inl e ↦ subst (λ u. Alike (steps n u) (steps n (step t))) (sym (step_idle s e))
          (subst (λ u. Alike (steps n s) (steps n u)) (sym (step_idle t (sym same_ready ∙ e))) (steps_alike n s t y a))
      | inr f ↦
          let m = f.0 in
          let here = first_ready s.closed s.waiting m f.1 f.2 in
          let told = verdict_permutation s.closed t.closed (good_valid s.closed y.valid) a.closed m here.1 in
          let next : Alike (admit m s) (admit m t) = subst (λ v. Alike (admit m s) (admit_by v m t)) told (alike_by (verdict s.closed m.change) m s t y.distinct a) in
          subst (λ u. Alike (steps n u) (steps n (step t))) (sym (step_first s m f.1 f.2))
          (subst (λ u. Alike (steps n (admit m s)) (steps n u)) (sym (step_first t m f.1 (sym same_ready ∙ f.2))) (steps_alike n (admit m s) (admit m t) (steady_admit s m f.1 f.2 y) next))
    ]

pub settle_alike : (s t : Sets) → Steady s → Alike s t → Alike (settle s) (settle t)
unfolding settle
settle_alike s t y a =
    subst (λ n. Alike (steps (length s.waiting) s) (steps n t)) (sym (length_permutation s.waiting t.waiting a.waiting)) (steps_alike (length s.waiting) s t y a)

-- ---- closed sets that are listed alike stay so

closed_by : (v : Verdict) (m : Member) (s t : Sets) → s.closed ≡ t.closed → (admit_by v m s).closed ≡ (admit_by v m t).closed
closed_by Fits m s t e = ap (λ C. C ++ m ∷ []) e
closed_by (SeqClash h) m s t e = e
closed_by SeqGap m s t e = e
closed_by (StartLow h) m s t e = e
closed_by (BadReference i) m s t e = e
closed_by (Full limit) m s t e = e

steps_closed : (n : ℕ) (s t : Sets) → Steady s → Alike s t → s.closed ≡ t.closed → (steps n s).closed ≡ (steps n t).closed
steps_closed zero s t y a e = e
steps_closed (suc n) s t y a e =
    let same_ready = ready_same s.closed t.closed s.waiting t.waiting a.closed y.distinct a.waiting in
    elim (first_or_none (ready s.closed s.waiting)) [
      | inl f ↦ subst (λ u. (steps n u).closed ≡ (steps n (step t)).closed) (sym (step_idle s f))
          (subst (λ u. (steps n s).closed ≡ (steps n u).closed) (sym (step_idle t (sym same_ready ∙ f))) (steps_closed n s t y a e))
      | inr f ↦
          let m = f.0 in
          let told : verdict s.closed m.change ≡ verdict t.closed m.change = ap (λ C. verdict C m.change) e in
          let next : Alike (admit m s) (admit m t) = subst (λ v. Alike (admit m s) (admit_by v m t)) told (alike_by (verdict s.closed m.change) m s t y.distinct a) in
          let closed : (admit m s).closed ≡ (admit m t).closed = subst (λ v. (admit m s).closed ≡ (admit_by v m t).closed) told (closed_by (verdict s.closed m.change) m s t e) in
          subst (λ u. (steps n u).closed ≡ (steps n (step t)).closed) (sym (step_first s m f.1 f.2))
          (subst (λ u. (steps n (admit m s)).closed ≡ (steps n u).closed) (sym (step_first t m f.1 (sym same_ready ∙ f.2))) (steps_closed n (admit m s) (admit m t) (steady_admit s m f.1 f.2 y) next closed))
    ]

pub settle_closed : (s t : Sets) → Steady s → Alike s t → s.closed ≡ t.closed → (settle s).closed ≡ (settle t).closed
unfolding settle
settle_closed s t y a e =
    subst (λ n. (steps (length s.waiting) s).closed ≡ (steps n t).closed) (sym (length_permutation s.waiting t.waiting a.waiting)) (steps_closed (length s.waiting) s t y a e)

both_unique : (s : Sets) → Steady s → Unique (s.closed ++ s.waiting)
both_unique s y = unique (s.closed ++ s.waiting) (distinct_from_once (s.closed ++ s.waiting) (once_append s.closed s.waiting (good_valid s.closed y.valid).once (once_from_distinct s.waiting y.distinct) y.fresh))

receive_by_alike : (o : Option Member) (m : Member) (s t : Sets) → Alike s t → Alike (receive_by o m s) (receive_by o m t)
receive_by_alike None m s t a = record { closed = a.closed; waiting = IsPermutation-append_left (m ∷ []) s.waiting t.waiting a.waiting; rejected = a.rejected }
receive_by_alike (Some held) m s t a = either (same_change held.change m.change) _
  where
    either : (b : Bool) (r : Rejected) → Alike (cond b s (record { closed = s.closed; waiting = s.waiting; rejected = s.rejected ++ r ∷ [] })) (cond b t (record { closed = t.closed; waiting = t.waiting; rejected = t.rejected ++ r ∷ [] }))
    either true r = a
    either false r = record { closed = a.closed; waiting = a.waiting; rejected = ap (λ l. l ++ r ∷ []) a.rejected }

pub receive_alike : (s t : Sets) (L : List Member) → All MayCome L → Steady s → Alike s t → Alike (receive s L) (receive t L)
receive_alike s t [] fine y a = a
receive_alike s t (m ∷ L) fine y a =
    let p = IsPermutation-append s.closed t.closed s.waiting t.waiting a.closed a.waiting in
    let one = both_unique s y in
    let found : member (s.closed ++ s.waiting) m.hash ≡ member (t.closed ++ t.waiting) m.hash =
    find_same (λ (n : Member). same hash_cmp m.hash n.hash) (s.closed ++ s.waiting) (t.closed ++ t.waiting)
    (λ x z cx cz hx hz. one x z cx cz (sym (same_hash-true m.hash x.hash hx) ∙ same_hash-true m.hash z.hash hz))
    (Within-permutation _ _ p) (Within-permutation_back _ _ p) in
    let next = receive_by_alike (member (s.closed ++ s.waiting) m.hash) m s t a in
    receive_alike (receive_by (member (s.closed ++ s.waiting) m.hash) m s) (receive_by (member (t.closed ++ t.waiting) m.hash) m t) L (All-tail MayCome m L fine)
    (steady_receive s m (All-head MayCome m L fine) y)
    (subst (λ o. Alike (receive_by (member (s.closed ++ s.waiting) m.hash) m s) (receive_by o m t)) found next)

pub listing_is_free : ListingIsFree
unfolding deliver
listing_is_free C D V W L store p q fine =
    let s : Sets = record { closed = C; waiting = V; rejected = [] } in
    let t : Sets = record { closed = D; waiting = W; rejected = [] } in
    let y = steady_from C V [] store in
    settle_alike (receive s L) (receive t L) (steady_all s L fine y) (receive_alike s t L fine y (record { closed = p; waiting = q; rejected = refl }))
