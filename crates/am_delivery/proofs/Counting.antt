-- A delivery makes no members.
use Rattle.std.proofs.Common.{ℕ, ◌≡◌, ◌≤◌, ◌<◌, ◌+◌, List, [], ◌∷◌, ◌++◌, length, Bool, true, false, cond, Option, Some, None, refl, arith}
use Rattle.std.proofs.lemmas.List.{length-append}
use Rattle.am_types.specs.declared.Verdict.{Verdict}
use Rattle.am_types.specs.declared.Verdict.TheVariants.{Fits}
use Rattle.am_types.specs.declared.Rejected.{Rejected}
use Rattle.am_types.specs.Same.{same_change}
use Rattle.am_types.specs.Members.{Member, member}
use Rattle.am_types.specs.Verdicts.{verdict}
use Rattle.am_types.specs.Deliver.{Sets, ready, admit_by, admit, receive, receive_by, deliver}
use Rattle.am_laws.proofs.SettleLaws.{fewer_wait}
use Rattle.am_laws.proofs.Listings.{settle-keeps}
use Rattle.am_delivery.specs.Laws.{JoinsNoMore}

abbrev count : Sets → ℕ
count s = length s.closed + length s.waiting

record AtMost (n : ℕ) (s : Sets) : Type 0 where
  few : count s ≤ n

admitted : (v : Verdict) (m : Member) (s : Sets) → length (admit_by v m s).waiting < length s.waiting → count (admit_by v m s) ≤ count s
admitted Fits m s l = let n = length-append s.closed (m ∷ []) in omega arith
admitted _ m s l = omega arith

admit_few : (n : ℕ) (s : Sets) (m : Member) (ms : List Member) → ready s.closed s.waiting ≡ m ∷ ms → AtMost n s → AtMost n (admit m s)
admit_few n s m ms e a =
    let less = fewer_wait s (admit m s) (record { first = m; others = ms; are_ready = e; admits = refl }) in
    let fewer = admitted (verdict s.closed m.change) m s less in
    let had = a.few in
    record { few = omega arith }

received : (o : Option Member) (m : Member) (s : Sets) → count (receive_by o m s) ≤ count s + 1
received None m s = let n = length-append s.waiting (m ∷ []) in omega arith
received (Some held) m s = either (same_change held.change m.change) _
  where
    either : (b : Bool) (R : List Rejected) → count (cond b s (record { closed = s.closed; waiting = s.waiting; rejected = R })) ≤ count s + 1
    either true R = omega arith
    either false R = omega arith

all_received : (s : Sets) (L : List Member) → count (receive s L) ≤ count s + length L
all_received s [] = omega arith
all_received s (m ∷ L) =
    let one = received (member (s.closed ++ s.waiting) m.hash) m s in
    let rest = all_received (receive_by (member (s.closed ++ s.waiting) m.hash) m s) L in
    omega arith

pub joins_no_more : JoinsNoMore
unfolding deliver
joins_no_more C W L =
    let start : Sets = record { closed = C; waiting = W; rejected = [] } in
    let came = all_received start L in
    let few = (settle-keeps (AtMost (count (receive start L))) (admit_few (count (receive start L))) (receive start L) (record { few = omega arith })).few in
    omega arith
