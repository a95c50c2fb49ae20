-- A delivery takes no member out of the closed set.
use Rattle.std.proofs.Common.{ℕ, zero, suc, List, [], ◌∷◌, length, sym, subst, Contains}
use Rattle.std.proofs.lemmas.List.Elements.{Contains-append_left}
use Rattle.am_types.specs.declared.Verdict.{Verdict}
use Rattle.am_types.specs.declared.Verdict.TheVariants.{Fits, SeqClash, SeqGap, StartLow, BadReference, Full}
use Rattle.am_types.specs.Members.{Member}
use Rattle.am_types.specs.Verdicts.{verdict}
use Rattle.am_types.specs.Deliver.{Sets, ready, admit_by, admit_first, step, steps, settle, receive, deliver}
use Rattle.am_delivery.proofs.Ends.{receive-closed}

admitted_by : (v : Verdict) (m : Member) (s : Sets) (x : Member) → Contains s.closed x → Contains (admit_by v m s).closed x
admitted_by Fits m s x c = Contains-append_left s.closed (m ∷ []) x c
admitted_by (SeqClash h) m s x c = c
admitted_by SeqGap m s x c = c
admitted_by (StartLow h) m s x c = c
admitted_by (BadReference i) m s x c = c
admitted_by (Full limit) m s x c = c

stepped_by : (ms : List Member) (s : Sets) (x : Member) → Contains s.closed x → Contains (admit_first ms s).closed x
stepped_by [] s x c = c
stepped_by (m ∷ ms) s x c = admitted_by (verdict s.closed m.change) m s x c

stepped : (n : ℕ) (s : Sets) (x : Member) → Contains s.closed x → Contains (steps n s).closed x
stepped zero s x c = c
stepped (suc n) s x c = stepped n (step s) x (stepped_by (ready s.closed s.waiting) s x c)

settled : (s : Sets) (x : Member) → Contains s.closed x → Contains (settle s).closed x
unfolding settle
settled s x c = stepped (length s.waiting) s x c

pub deliver_keeps : (C W L : List Member) (x : Member) → Contains C x → Contains (deliver C W L).closed x
unfolding deliver
deliver_keeps C W L x c =
    let s : Sets = record { closed = C; waiting = W; rejected = [] } in
    settled (receive s L) x (subst (λ D. Contains D x) (sym (receive-closed s L)) c)
