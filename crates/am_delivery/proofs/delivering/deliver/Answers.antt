use Rattle.std.proofs.Common.{rules, ◌≡◌, [], List, Option, Some, None, IfSome, vec_items, sym, ap, subst, ◌∙◌, IsPermutation}
use Rattle.am_types.specs.Members.{Member}
use Rattle.am_types.specs.Deliver.{AreStored, deliver as delivered}
use Rattle.am_delivery.specs.Tracking.{Tracks}
use Rattle.am_delivery.specs.Views.{tracker}
use Rattle.am_delivery.specs.Waiting.{members_of, waiting_of, remaining, IsTracked}
use Rattle.am_delivery.specs.declared.pending.Pending.{Pending}
use Rattle.am_delivery.proofs.Leaving.{remaining_nil, both_left}
use Rattle.am_delivery.proofs.delivering.deliver.Goals as goal

pub returns-in-Err-clause-err : goal.returns-in-Err-clause-err
returns-in-Err-clause-err g c =
    let W = waiting_of c.args.waiting.now in
    let none : vec_items c.new-came.result ≡ [] = search rules in
    c.remove_all-in-Err.ensures ∙ ap (λ hs. remaining hs (waiting_of c.take_up.new.waiting)) c.as_slice-in-Err.ensures.value ∙ c.take_up.ensures.kept ∙ ap (λ hs. remaining hs W) none ∙ remaining_nil W

pub returns-in-Ok-clause-waiting : goal.returns-in-Ok-clause-waiting
returns-in-Ok-clause-waiting g c =
    let left = both_left (vec_items c.in-Ok.outcome.gone.joined) (vec_items c.in-Ok.outcome.gone.turned_away) c.as_slice.result.now c.as_slice-in-Ok.result.now (waiting_of c.take_up.new.waiting) (waiting_of c.move_all.new.waiting) (waiting_of c.remove_all.new.waiting) c.as_slice.ensures.value c.as_slice-in-Ok.ensures.value c.move_all.ensures.left c.remove_all.ensures in
    let all = delivered (g.S.Closed.members c.args.closed.now) (waiting_of c.args.waiting.now) (members_of (vec_items c.args.changes)) in
    subst (IsPermutation all.waiting) (sym left) c.in-Ok.ensures.waiting

pub returns-in-Ok-clause-stored : goal.returns-in-Ok-clause-stored
returns-in-Ok-clause-stored g c =
    let left = both_left (vec_items c.in-Ok.outcome.gone.joined) (vec_items c.in-Ok.outcome.gone.turned_away) c.as_slice.result.now c.as_slice-in-Ok.result.now (waiting_of c.take_up.new.waiting) (waiting_of c.move_all.new.waiting) (waiting_of c.remove_all.new.waiting) c.as_slice.ensures.value c.as_slice-in-Ok.ensures.value c.move_all.ensures.left c.remove_all.ensures in
    subst (AreStored (g.S.Closed.members c.take_up.new.closed)) (sym left) c.in-Ok.ensures.stored

-- what is kept is what was tracked
kept_tracks : (C W : List Member) (p : Pending) (o : Option Pending) → IfSome o (λ k. k ≡ p) → Tracks C W (tracker p) → IsTracked C W o
kept_tracks C W p None e t = tt
kept_tracks C W p (Some k) e t = subst (λ q. Tracks C W (tracker q)) (sym e) t

pub returns-in-Ok-clause-tracked : goal.returns-in-Ok-clause-tracked
returns-in-Ok-clause-tracked g c =
    let left = both_left (vec_items c.in-Ok.outcome.gone.joined) (vec_items c.in-Ok.outcome.gone.turned_away) c.as_slice.result.now c.as_slice-in-Ok.result.now (waiting_of c.take_up.new.waiting) (waiting_of c.move_all.new.waiting) (waiting_of c.remove_all.new.waiting) c.as_slice.ensures.value c.as_slice-in-Ok.ensures.value c.move_all.ensures.left c.remove_all.ensures in
    kept_tracks (g.S.Closed.members c.take_up.new.closed) (waiting_of c.remove_all.new.waiting) c.take_up.new.pending c.kept.result c.kept.ensures
    (subst (λ W. Tracks (g.S.Closed.members c.take_up.new.closed) W (tracker c.take_up.new.pending)) (sym left) c.in-Ok.ensures.tracks)
