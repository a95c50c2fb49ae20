-- A delivery leaves only what was there or came.
use Rattle.std.proofs.Common.{◌≡◌, List, [], ◌∷◌, ◌++◌, Bool, true, false, cond, Option, Some, None, inl, inr, subst, Contains}
use Rattle.std.proofs.lemmas.List.Elements.{Contains-append_left, Contains-append_right, Contains-append_cases}
use Rattle.std.proofs.lemmas.List.Sorted.{Contains-permutation, IsPermutation-sym}
use Rattle.am_types.specs.declared.Rejected.{Rejected}
use Rattle.am_types.specs.declared.Verdict.{Verdict}
use Rattle.am_types.specs.declared.Verdict.TheVariants.{Fits}
use Rattle.am_types.specs.Same.{same_change}
use Rattle.am_types.specs.Members.{Member, member}
use Rattle.am_types.specs.Verdicts.{verdict}
use Rattle.am_types.specs.Deliver.{Sets, Alike, ready, without, admit_by, admit, receive, receive_by, settle, deliver}
use Rattle.am_laws.proofs.Listings.{settle-keeps}
use Rattle.am_delivery.specs.Laws.{KeepsWhatCame}
use Rattle.am_delivery.proofs.Lists.{Within, Within-add}
use Rattle.am_delivery.proofs.Settling.{first_ready, waits_still}

-- all members of the two sets are among E
record Inside (E : List Member) (s : Sets) : Type 0 where
  closed : Within s.closed E
  waiting : Within s.waiting E

inside_admit : (E : List Member) (s : Sets) (m : Member) (ms : List Member) → ready s.closed s.waiting ≡ m ∷ ms → Inside E s → Inside E (admit m s)
inside_admit E s m ms e y = go (verdict s.closed m.change)
  where
    rest : Within (without m.hash s.waiting) E
    rest n c = y.waiting n (waits_still m n s.waiting c).0

    go : (v : Verdict) → Inside E (admit_by v m s)
    go Fits = record { closed = Within-add s.closed E m y.closed (y.waiting m (first_ready s.closed s.waiting m ms e).0); waiting = rest }
    go _ = record { closed = y.closed; waiting = rest }

inside_receive : (E : List Member) (o : Option Member) (m : Member) (s : Sets) → Contains E m → Inside E s → Inside E (receive_by o m s)
inside_receive E None m s c y = record { closed = y.closed; waiting = Within-add s.waiting E m y.waiting c }
inside_receive E (Some held) m s c y = besides (same_change held.change m.change) _
  where
    besides : (b : Bool) (R : List Rejected) → Inside E (cond b s (record { closed = s.closed; waiting = s.waiting; rejected = R }))
    besides true R = y
    besides false R = record { closed = y.closed; waiting = y.waiting }

inside_all : (E : List Member) (s : Sets) (L : List Member) → Within L E → Inside E s → Inside E (receive s L)
inside_all E s [] w y = y
inside_all E s (m ∷ L) w y =
    inside_all E (receive_by (member (s.closed ++ s.waiting) m.hash) m s) L (λ n c. w n (Rattle.am_delivery.proofs.Lists.Contains-later m L n c))
    (inside_receive E (member (s.closed ++ s.waiting) m.hash) m s (w m (Rattle.am_delivery.proofs.Lists.Contains-here m L)) y)

-- the waiting ones alone
waits_within : (E : List Member) (o : Option Member) (m : Member) (s : Sets) → Contains E m → Within s.waiting E → Within (receive_by o m s).waiting E
waits_within E None m s c w = Within-add s.waiting E m w c
waits_within E (Some held) m s c w = besides (same_change held.change m.change) _
  where
    besides : (b : Bool) (R : List Rejected) → Within (cond b s (record { closed = s.closed; waiting = s.waiting; rejected = R })).waiting E
    besides true R = w
    besides false R = w

all_within : (E : List Member) (s : Sets) (L : List Member) → Within L E → Within s.waiting E → Within (receive s L).waiting E
all_within E s [] w y = y
all_within E s (m ∷ L) w y =
    all_within E (receive_by (member (s.closed ++ s.waiting) m.hash) m s) L (λ n c. w n (Rattle.am_delivery.proofs.Lists.Contains-later m L n c))
    (waits_within E (member (s.closed ++ s.waiting) m.hash) m s (w m (Rattle.am_delivery.proofs.Lists.Contains-here m L)) y)

-- what waits when all are received was there or came
pub received_within : (s t : Sets) (W L : List Member) → s.waiting ≡ W → Alike (receive s L) t → (m : Member) → Contains t.waiting m → Contains (W ++ L) m
received_within s t W L e a m c =
    all_within (W ++ L) s L (λ n d. Contains-append_right W L n d) (λ n d. Contains-append_left W L n (subst (λ V. Contains V n) e d)) m
    (Contains-permutation t.waiting (receive s L).waiting m (IsPermutation-sym (receive s L).waiting t.waiting a.waiting) c)

pub keeps_what_came : KeepsWhatCame
unfolding deliver
keeps_what_came C W L m c =
    let E : List Member = (C ++ W) ++ L in
    let start : Sets = record { closed = C; waiting = W; rejected = [] } in
    let begun : Inside E start = record {
      closed = λ n d. Contains-append_left (C ++ W) L n (Contains-append_left C W n d);
      waiting = λ n d. Contains-append_left (C ++ W) L n (Contains-append_right C W n d);
    } in
    let t = settle (receive start L) in
    let y = settle-keeps (Inside E) (inside_admit E) (receive start L) (inside_all E start L (λ n d. Contains-append_right (C ++ W) L n d) begun) in
    elim (Contains-append_cases t.closed t.waiting m c) [ inl d ↦ y.closed m d | inr d ↦ y.waiting m d ]
