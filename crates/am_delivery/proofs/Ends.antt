-- What a whole delivery leaves.
use Rattle.std.proofs.Common.{◌≡◌, List, [], ◌∷◌, ◌++◌, get_or, Bool, true, false, cond, Option, Some, None, refl, sym, ap, ◌∙◌, subst, All, IsPermutation}
use Rattle.std.proofs.lemmas.List.Elements.{Contains-get_or}
use Rattle.std.proofs.lemmas.List.Sorted.{IsPermutation-sym, IsPermutation-append_right, All-permutation}
use Rattle.am_types.specs.declared.Rejected.{Rejected}
use Rattle.am_types.specs.Same.{same_change}
use Rattle.am_types.specs.Members.{Member, member, holds}
use Rattle.am_types.specs.Deliver.{Sets, MayCome, Waits, AreStored, Alike, receive, receive_by, settle, deliver}
use Rattle.am_delivery.proofs.Members.{once_from_distinct, distinct_from_once, once_permutation}
use Rattle.am_delivery.proofs.Deliveries.{distinct_from_pairs}
use Rattle.am_delivery.proofs.Steady.{Steady, steady_all, steady_from, pairs_from_distinct, stays_stored}
use Rattle.am_delivery.proofs.Alikeness.{ready_same, settle_alike, settle_closed}

abbrev start : List Member → List Member → Sets
start C W = record { closed = C; waiting = W; rejected = [] }

-- receiving leaves the closed set
receive_by-closed : (o : Option Member) (m : Member) (s : Sets) → (receive_by o m s).closed ≡ s.closed
receive_by-closed None m s = refl
receive_by-closed (Some held) m s = either (same_change held.change m.change) _
  where
    either : (b : Bool) (R : List Rejected) → (cond b s (record { closed = s.closed; waiting = s.waiting; rejected = R })).closed ≡ s.closed
    either true R = refl
    either false R = refl

pub receive-closed : (s : Sets) (L : List Member) → (receive s L).closed ≡ s.closed
receive-closed s [] = refl
receive-closed s (m ∷ L) = receive-closed (receive_by (member (s.closed ++ s.waiting) m.hash) m s) L ∙ receive_by-closed (member (s.closed ++ s.waiting) m.hash) m s

pub from_nothing : (C W L : List Member) (t : Sets) (R : List Rejected) → R ≡ [] → Alike (receive (record { closed = C; waiting = W; rejected = R }) L) t → Alike (receive (start C W) L) t
from_nothing C W L t R e a = subst (λ R. Alike (receive (record { closed = C; waiting = W; rejected = R }) L) t) e a

-- sets are stored however the waiting one is listed
stored_permuted : (C V W : List Member) → AreStored C V → IsPermutation V W → AreStored C W
stored_permuted C V W s p =
    let once = once_from_distinct (C ++ V) (distinct_from_pairs (C ++ V) s.hashes) in
    let y = steady_from C V [] s in
    record {
      valid = s.valid;
      waiting = All-permutation MayCome V W p s.waiting;
      hashes = pairs_from_distinct (C ++ W) (distinct_from_once (C ++ W) (once_permutation (C ++ V) (C ++ W) (IsPermutation-append_right C V W p) once));
      settled = sym (ready_same C C V W (Rattle.std.proofs.lemmas.List.Sorted.IsPermutation-refl C) y.distinct p) ∙ s.settled;
    }

module _ (C W L : List Member) (stored : AreStored C W) (fine : All MayCome L) (t : Sets) (closed : t.closed ≡ C) (came : Alike (receive (start C W) L) t) where
  received : Steady (receive (start C W) L)
  received = steady_all (start C W) L fine (steady_from C W [] stored)

  pub may_come : All MayCome t.waiting
  may_come =
      let r = receive (start C W) L in
      All-permutation MayCome r.waiting t.waiting came.waiting (λ k d l. received.may_come (get_or r.waiting k d) (Contains-get_or r.waiting k d l))

  pub waits : All (Waits C) t.waiting
  waits =
      let r = receive (start C W) L in
      All-permutation (Waits C) r.waiting t.waiting came.waiting (λ k d l.
      let n = get_or r.waiting k d in
      let c = Contains-get_or r.waiting k d l in
      record { may_come = received.may_come n c; fresh = subst (λ D. holds D n.hash ≡ false) (receive-closed (start C W) L) (received.fresh n c) })

  same_closed : (receive (start C W) L).closed ≡ t.closed
  same_closed = receive-closed (start C W) L ∙ sym closed

  module _ (new : Sets) (ends : new ≡ settle t) where
    alike : Alike (settle (receive (start C W) L)) new
    alike = subst (Alike (settle (receive (start C W) L))) (sym ends) (settle_alike (receive (start C W) L) t received came)

    pub ends_closed : new.closed ≡ (deliver C W L).closed
    unfolding deliver
    ends_closed = ap (λ (s : Sets). s.closed) ends ∙ sym (settle_closed (receive (start C W) L) t received came same_closed)

    pub ends_waiting : IsPermutation (deliver C W L).waiting new.waiting
    unfolding deliver
    ends_waiting = alike.waiting

    pub ends_rejected : new.rejected ≡ (deliver C W L).rejected
    unfolding deliver
    ends_rejected = sym alike.rejected

    pub ends_stored : AreStored new.closed new.waiting
    ends_stored =
        let s = stored_permuted (deliver C W L).closed (deliver C W L).waiting new.waiting (stays_stored C W L stored fine) ends_waiting in
        subst (λ D. AreStored D new.waiting) (sym ends_closed) s
