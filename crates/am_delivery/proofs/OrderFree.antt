-- Where no two changes of some deliveries clash, the sets that stand for them depend on the changes alone.
use Rattle.std.proofs.Common.{◌≡◌, ◌↔◌, List, [], ◌∷◌, ◌++◌, flat_map, Bool, true, false, cond, Option, Some, None, refl, sym, ap, ◌∙◌, subst, inl, inr, ◌⊎◌, All, Contains, IsPermutation}
use Rattle.std.proofs.lemmas.Bool.{both_ways, false_from_ne_true}
use Rattle.std.proofs.lemmas.List.{append-nil, append_assoc}
use Rattle.std.proofs.lemmas.List.Elements.{All-contains, All-contains_itself, All-head, All-tail, Contains-append_left, Contains-append_right, Contains-append_cases, Contains-push, Contains-push_cases}
use Rattle.std.proofs.lemmas.List.Sorted.{IsPermutation-refl}
use Rattle.am_types.specs.declared.Rejected.{Rejected}
use Rattle.am_types.specs.declared.Verdict.{Verdict}
use Rattle.am_types.specs.declared.Verdict.TheVariants.{Fits}
use Rattle.am_types.specs.Order.{hash_cmp, same}
use Rattle.am_types.specs.Same.{same_change}
use Rattle.am_types.specs.Members.{Member, NoRepeats, DistinctHashes, member, holds, holds_deps}
use Rattle.am_types.specs.Ancestors.{ancestors}
use Rattle.am_types.specs.Verdicts.{verdict}
use Rattle.am_types.specs.ValidSets.{Joins, JoinInTurn, Reachable, IsGreatest}
use Rattle.am_types.specs.Deliver.{Sets, MayCome, ready, admit_by, admit, receive, receive_by, deliver, after_all, after}
use Rattle.am_types.proofs.Orders.{same_hash-true}
use Rattle.am_laws.proofs.SettleLaws.{settle_settles}
use Rattle.am_laws.proofs.Listings.{settle-keeps, JoinInTurn-push}
use Rattle.am_delivery.specs.Laws.{NoneClash, OrderIsFree}
use Rattle.am_delivery.proofs.Lists.{Within, Within-push, Within-permutation, Within-permutation_back, Contains-none, Contains-from_flat_map, find_none, any_none, found_is}
use Rattle.am_delivery.proofs.Members.{holder, deps_within, distinct_from_once, once_permutation, no_repeat}
use Rattle.am_delivery.proofs.Reasons.{FitsAncestors, fits_over, fits_ancestors}
use Rattle.am_delivery.proofs.Turns.{Good, good, good_push, fits_elsewhere, takes_all}
use Rattle.am_delivery.proofs.Steady.{pairs_from_distinct}
use Rattle.am_delivery.proofs.Alikeness.{deps_same}
use Rattle.am_delivery.proofs.Settling.{first_ready, none_ready, waits_still, leaves_one, fresh_push}

no_repeats : (C : List Member) → DistinctHashes C → NoRepeats C
no_repeats C d = λ i j e lt l. λ same. d i j e lt l (ap (λ (m : Member). m.hash) same)

-- m has its dependencies, and does not fit its ancestors
pub record Misfits (C : List Member) (m : Member) : Type 0 where
  pub deps : holds_deps C m.change ≡ true
  pub unfit : FitsAncestors (ancestors C m.change.deps) m.change → ⊥

-- each that came is closed, waits, or doesn't fit
pub record Came (E : List Member) (s : Sets) : Type 0 where
  pub turn : JoinInTurn [] s.closed
  pub closed_in : Within s.closed E
  pub waiting_in : Within s.waiting E
  pub all : (n : Member) → Contains E n → Contains s.closed n ⊎ Contains s.waiting n ⊎ Misfits s.closed n
  pub fresh : (n : Member) → Contains s.waiting n → holds s.closed n.hash ≡ false

module _ (D : List Member) (none : NoneClash D) (may_come : (m : Member) → Contains D m → MayCome m) where
  still_unfit : (C : List Member) (m n : Member) → Good C → Good (C ++ m ∷ []) → Within (C ++ m ∷ []) D → Misfits C n → Misfits (C ++ m ∷ []) n
  still_unfit C m n g h w u =
      let more : Within C (C ++ m ∷ []) = λ k c. Contains-append_left C (m ∷ []) k c in
      let deps = deps_within C (C ++ m ∷ []) n.change more u.deps in
      record {
        deps = deps;
        unfit = λ f. u.unfit (fits_elsewhere D none.hashes (C ++ m ∷ []) C w (λ k c. w k (more k c)) h.closed g.closed n deps u.deps f);
      }

  came_admit : (E : List Member) → Within E D → (s : Sets) (m : Member) (ms : List Member) → ready s.closed s.waiting ≡ m ∷ ms → Came E s → Came E (admit m s)
  came_admit E w s m ms e came = go (verdict s.closed m.change) refl
    where
      here : Contains s.waiting m × (holds_deps s.closed m.change ≡ true)
      here = first_ready s.closed s.waiting m ms e

      in_all : Contains D m
      in_all = w m (came.waiting_in m here.0)

      g : Good s.closed
      g = good s.closed came.turn

      one : (n : Member) → Contains s.waiting n → m.hash ≡ n.hash → m ≡ n
      one n c h = none.hashes m n in_all (w n (came.waiting_in n c)) h

      go : (v : Verdict) → verdict s.closed m.change ≡ v → Came E (admit_by v m s)
      go Fits f =
          let j : Joins s.closed m = record { hash = (may_come m in_all).hash; fresh = came.fresh m here.0; deps = here.1; fine = (may_come m in_all).fine; fits = f } in
          let h = good_push s.closed m g j in
          let inside : Within (s.closed ++ m ∷ []) E = Rattle.am_delivery.proofs.Lists.Within-add s.closed E m came.closed_in (came.waiting_in m here.0) in
          record {
            turn = JoinInTurn-push [] s.closed m came.turn j;
            closed_in = inside;
            waiting_in = λ n c. came.waiting_in n (waits_still m n s.waiting c).0;
            all = λ n c. elim (came.all n c) [
              | inl a ↦ inl (Contains-append_left s.closed (m ∷ []) n a)
              | inr a ↦ elim a [
                | inl b ↦ elim (leaves_one m n s.waiting b) [
                  | inl k ↦ inl (subst (Contains (s.closed ++ m ∷ [])) (one n b k) (Contains-push s.closed m))
                  | inr k ↦ inr (inl k)
                ]
                | inr b ↦ inr (inr (still_unfit s.closed m n g h (λ k d. w k (inside k d)) b))
              ]
            ];
            fresh = λ n c. let k = waits_still m n s.waiting c in fresh_push s.closed m n (came.fresh n k.0) k.1;
          }
      go _ f =
          let u : Misfits s.closed m = record {
            deps = here.1;
            unfit = λ a. let good_by = fits_over D none.seqs none.limits s.closed (λ k d. w k (came.closed_in k d)) (no_repeat s.closed (distinct_from_once s.closed g.once)) m in_all (came.fresh m here.0) a in cc;
          } in
          record {
            turn = came.turn;
            closed_in = came.closed_in;
            waiting_in = λ n c. came.waiting_in n (waits_still m n s.waiting c).0;
            all = λ n c. elim (came.all n c) [
              | inl a ↦ inl a
              | inr a ↦ elim a [
                | inl b ↦ elim (leaves_one m n s.waiting b) [
                  | inl k ↦ inr (inr (subst (Misfits s.closed) (one n b k) u))
                  | inr k ↦ inr (inl k)
                ]
                | inr b ↦ inr (inr b)
              ]
            ];
            fresh = λ n c. came.fresh n (waits_still m n s.waiting c).0;
          }

  -- what was rejected doesn't matter
  came_besides : (E : List Member) (s : Sets) (R : List Rejected) → Came E s → Came E (record { closed = s.closed; waiting = s.waiting; rejected = R })
  came_besides E s R c = record { turn = c.turn; closed_in = c.closed_in; waiting_in = c.waiting_in; all = c.all; fresh = c.fresh }

  came_receive : (E : List Member) (s : Sets) (m : Member) → Within (E ++ m ∷ []) D → Came E s → Came (E ++ m ∷ []) (receive_by (member (s.closed ++ s.waiting) m.hash) m s)
  came_receive E s m w came = go (member (s.closed ++ s.waiting) m.hash) refl
    where
      p : Member → Bool
      p n = same hash_cmp m.hash n.hash

      more : Within E (E ++ m ∷ [])
      more n c = Contains-append_left E (m ∷ []) n c

      skipped : Contains (s.closed ++ s.waiting) m → Came (E ++ m ∷ []) s
      skipped there = record {
        turn = came.turn;
        closed_in = λ n c. more n (came.closed_in n c);
        waiting_in = λ n c. more n (came.waiting_in n c);
        all = λ n c. elim (Contains-push_cases E m n c) [
          | inl d ↦ came.all n d
          | inr e ↦ elim (Contains-append_cases s.closed s.waiting m there) [
            | inl d ↦ inl (subst (Contains s.closed) e d)
            | inr d ↦ inr (inl (subst (Contains s.waiting) e d))
          ]
        ];
        fresh = came.fresh;
      }

      either : (b : Bool) (R : List Rejected) → Came (E ++ m ∷ []) s → Came (E ++ m ∷ []) (cond b s (record { closed = s.closed; waiting = s.waiting; rejected = R }))
      either true R c = c
      either false R c = came_besides (E ++ m ∷ []) s R c

      go : (o : Option Member) → member (s.closed ++ s.waiting) m.hash ≡ o → Came (E ++ m ∷ []) (receive_by o m s)
      go None f = record {
        turn = came.turn;
        closed_in = λ n c. more n (came.closed_in n c);
        waiting_in = Within-push s.waiting E m came.waiting_in;
        all = λ n c. elim (Contains-push_cases E m n c) [
          | inl d ↦ elim (came.all n d) [
            | inl a ↦ inl a
            | inr a ↦ elim a [ inl b ↦ inr (inl (Contains-append_left s.waiting (m ∷ []) n b)) | inr b ↦ inr (inr b) ]
          ]
          | inr e ↦ inr (inl (subst (Contains (s.waiting ++ m ∷ [])) e (Contains-push s.waiting m)))
        ];
        fresh = λ n c. elim (Contains-push_cases s.waiting m n c) [
          | inl d ↦ came.fresh n d
          | inr e ↦ subst (λ (k : Member). holds s.closed k.hash ≡ false) e (false_from_ne_true _ (λ t.
              let k = holder s.closed m.hash t in
              both_ways (p k.0) (any_none p (s.closed ++ s.waiting) (find_none p (s.closed ++ s.waiting) f) k.0 (Contains-append_left s.closed s.waiting k.0 k.1))
              (subst (λ h. same hash_cmp m.hash h ≡ true) (sym k.2) (Rattle.am_types.proofs.Orders.same_hash_itself m.hash))))
        ];
      }
      go (Some held) f =
          let is = found_is p (s.closed ++ s.waiting) held f in
          let inside : Contains E held = elim (Contains-append_cases s.closed s.waiting held is.0) [ inl c ↦ came.closed_in held c | inr c ↦ came.waiting_in held c ] in
          let same_one : m ≡ held = none.hashes m held (w m (Contains-push E m)) (w held (more held inside)) (same_hash-true m.hash held.hash is.1) in
          either (same_change held.change m.change) _ (skipped (subst (Contains (s.closed ++ s.waiting)) (sym same_one) is.0))

  came_all : (E : List Member) (s : Sets) (L : List Member) → Within (E ++ L) D → Came E s → Came (E ++ L) (receive s L)
  came_all E s [] w came = subst (λ e. Came e s) (sym (append-nil E)) came
  came_all E s (m ∷ L) w came =
      let joined = append_assoc E (m ∷ []) L in
      let w' : Within ((E ++ m ∷ []) ++ L) D = λ n c. w n (subst (λ l. Contains l n) joined c) in
      let first = came_receive E s m (λ n c. w' n (Contains-append_left (E ++ m ∷ []) L n c)) came in
      subst (λ e. Came e (receive s (m ∷ L))) joined (came_all (E ++ m ∷ []) (receive_by (member (s.closed ++ s.waiting) m.hash) m s) L w' first)

  pub came_deliver : (E : List Member) (s : Sets) (L : List Member) → Within (E ++ L) D → Came E s → Came (E ++ L) (deliver s.closed s.waiting L)
  unfolding deliver
  came_deliver E s L w came =
      let start : Sets = record { closed = s.closed; waiting = s.waiting; rejected = [] } in
      settle-keeps (Came (E ++ L)) (came_admit (E ++ L) w) (receive start L) (came_all E start L w (came_besides E s [] came))

  pub settled_deliver : (C W L : List Member) → ready (deliver C W L).closed (deliver C W L).waiting ≡ []
  unfolding deliver
  settled_deliver C W L = settle_settles (receive (record { closed = C; waiting = W; rejected = [] }) L)

  abbrev all_of : List (List Member) → List Member
  all_of Ls = flat_map (λ L. L) Ls

  came_after : (Ls : List (List Member)) (E : List Member) (s : Sets) → Within (E ++ all_of Ls) D → Came E s → ready s.closed s.waiting ≡ [] → Came (E ++ all_of Ls) (after_all s Ls) × (ready (after_all s Ls).closed (after_all s Ls).waiting ≡ [])
  came_after [] E s w came settled = (subst (λ e. Came e s) (sym (append-nil E)) came, settled)
  came_after (L ∷ Ls) E s w came settled =
      let joined = append_assoc E L (all_of Ls) in
      let w' : Within ((E ++ L) ++ all_of Ls) D = λ n c. w n (subst (λ l. Contains l n) joined c) in
      let next = came_deliver E s L (λ n c. w' n (Contains-append_left (E ++ L) (all_of Ls) n c)) came in
      let r = came_after Ls (E ++ L) (deliver s.closed s.waiting L) w' next (settled_deliver s.closed s.waiting L) in
      (subst (λ e. Came e (after_all s (L ∷ Ls))) joined r.0, r.1)

  -- what came of D, when it is settled
  module _ (s : Sets) (came : Came D s) (settled : ready s.closed s.waiting ≡ []) where
    members_are : (m : Member) → Contains s.closed m ↔ Reachable D m
    members_are m = (
      λ c. record {
        set = s.closed;
        valid = record { listing = s.closed; same = IsPermutation-refl s.closed; in_turn = came.turn };
        within = λ k d l. came.closed_in _ (Rattle.std.proofs.lemmas.List.Elements.Contains-get_or s.closed k d l);
        has = c;
      },
      λ r.
          let l = r.valid.listing in
          let back = Within-permutation_back r.set l r.valid.same in
          let g = good s.closed came.turn in
          let in_all : Within l D = λ n c. All-contains (Contains D) r.set n r.within (back n c) in
          takes_all s.closed l r.valid.in_turn
          (λ b n cn w gb j.
          let deps = deps_within b s.closed n.change w j.deps in
          elim (came.all n (in_all n cn)) [
            | inl a ↦ a
            | inr a ↦ elim a [
              | inl k ↦ absurd (both_ways (holds_deps s.closed n.change) (none_ready s.closed s.waiting settled n k) deps)
              | inr u ↦ absurd (u.unfit (fits_elsewhere D none.hashes b s.closed (λ k d. came.closed_in k (w k d)) came.closed_in gb.closed g.closed n j.deps deps (fits_ancestors b n.change j.fits)))
            ]
          ])
          m (Within-permutation r.set l r.valid.same m r.has),
    )

    -- however the closed set is listed
    pub greatest : (C : List Member) → IsPermutation s.closed C → IsGreatest D C
    greatest C p = record {
      once = no_repeats C (pairs_from_distinct C (distinct_from_once C (once_permutation s.closed C p (good s.closed came.turn).once)));
      members = λ m. let a = members_are m in (λ c. a.0 (Within-permutation_back s.closed C p m c), λ r. Within-permutation s.closed C p m (a.1 r));
    }

    pub lacking : (m : Member) → Contains s.waiting m ↔ (Contains D m × (holds_deps s.closed m.change ≡ false))
    lacking m = (
      λ c. (came.waiting_in m c, none_ready s.closed s.waiting settled m c),
      λ h. elim (came.all m h.0) [
        | inl a ↦ absurd (both_ways (holds_deps s.closed m.change) h.1 ((good s.closed came.turn).closed m a))
        | inr a ↦ elim a [ inl k ↦ k | inr u ↦ absurd (both_ways (holds_deps s.closed m.change) h.1 u.deps) ]
      ],
    )

same_came : (E D : List Member) (s : Sets) → Within E D → Within D E → Came E s → Came D s
same_came E D s w v c = record {
  turn = c.turn;
  closed_in = λ n k. w n (c.closed_in n k);
  waiting_in = λ n k. w n (c.waiting_in n k);
  all = λ n k. c.all n (v n k);
  fresh = c.fresh;
}

pub order_is_free : OrderIsFree
order_is_free Ls D C W stand are none =
    let E : List Member = flat_map (λ L. L) Ls in
    let w : Within E D = λ n c. (are n).1 c in
    let v : Within D E = λ n c. (are n).0 c in
    let may_come : (m : Member) → Contains D m → MayCome m = λ m c.
    let f = Contains-from_flat_map (λ (L : List Member). L) Ls m (v m c) in
    All-contains MayCome f.0 m (All-contains (All MayCome) Ls f.0 stand.may_come f.1) f.2 in
    let start : Sets = record { closed = []; waiting = []; rejected = [] } in
    let begun : Came [] start = record {
      turn = tt;
      closed_in = λ n c. c;
      waiting_in = λ n c. c;
      all = λ n c. inl c;
      fresh = λ n c. refl;
    } in
    let r = came_after D none may_come Ls [] start w begun refl in
    let came : Came D (after Ls) = same_came E D (after Ls) w v r.0 in (
      greatest D none may_come (after Ls) came r.1 C stand.closed,
      λ m. let a = lacking D none may_come (after Ls) came r.1 m in
          let e = deps_same (after Ls).closed C stand.closed m.change in (
            λ c. let b = a.0 (Within-permutation_back (after Ls).waiting W stand.waiting m c) in (b.0, sym e ∙ b.1),
            λ b. Within-permutation (after Ls).waiting W stand.waiting m (a.1 (b.0, e ∙ b.1)),
          ),
    )
