use Rattle.std.proofs.Common.{◌≡◌, ◌++◌, length, vec_items}
use Rattle.am_types.specs.Deliver.{Sets, settle}
use Rattle.am_types.specs.Members.{hashes}
use Rattle.am_delivery.specs.Tracking.{Tracks}
use Rattle.am_delivery.specs.Views.{tracker}
use Rattle.am_delivery.specs.Waiting.{waiting_of, remaining, taken_out, all_gone, AreLent}
use Rattle.am_delivery.proofs.Steps.{Kept}
use Rattle.am_delivery.proofs.admitting.settle_all.Given as goal

abbrev pub invariant-loop-gone : goal.invariant-loop-gone
invariant-loop-gone g l =
    let now : Sets = record { closed = g.S.Closed.members l.closed; waiting = remaining (all_gone l.gone) (waiting_of l.waiting); rejected = vec_items l.rejected } in
    let first : Sets = record { closed = g.S.Closed.members l.fn.closed; waiting = waiting_of l.fn.waiting; rejected = vec_items l.fn.rejected } in
    record {
      tracks : Tracks (g.S.Closed.members l.closed) (remaining (all_gone l.gone) (waiting_of l.waiting)) (tracker l.pending);
      kept : Kept now;
      joined : g.S.Closed.members l.closed ≡ g.S.Closed.members l.fn.closed ++ taken_out (vec_items l.gone.joined) (waiting_of l.waiting);
      named : hashes (taken_out (vec_items l.gone.joined) (waiting_of l.waiting)) ≡ vec_items l.gone.joined;
      settles : settle now ≡ settle first;
      lent : AreLent l.lent.items (vec_items l.gone.joined) (waiting_of l.waiting);
      base : g.S.Closed.base l.closed ≡ g.S.Closed.base l.fn.closed;
    }

abbrev pub decreases-loop-gone : goal.decreases-loop-gone
decreases-loop-gone g l = length (remaining (all_gone l.gone) (waiting_of l.waiting))
