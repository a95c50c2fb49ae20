use Rattle.std.proofs.Common.{◌≡◌, ◌++◌, length, vec_items}
use Rattle.std.specs.Vec.Iter.{into_iter_items, into_iter_len}
use Rattle.am_types.specs.Deliver.{Sets, Alike, receive}
use Rattle.am_delivery.specs.Tracking.{Tracks}
use Rattle.am_delivery.specs.Views.{tracker}
use Rattle.am_delivery.specs.Waiting.{members_of, waiting_of, remaining}
use Rattle.am_delivery.proofs.arriving.receive_all.Given as goal

abbrev pub invariant-loop-hash : goal.invariant-loop-hash
invariant-loop-hash g l =
    let now : Sets = record { closed = g.S.Closed.members l.closed; waiting = waiting_of l.waiting; rejected = vec_items l.rejected } in
    let first : Sets = record { closed = g.S.Closed.members l.closed; waiting = waiting_of l.fn.waiting; rejected = vec_items l.fn.rejected } in
    record {
      left : l.yielded ++ into_iter_items l.hash-iterator ≡ into_iter_items l.initial.hash-iterator;
      count : into_iter_len l.hash-iterator ≡ length (into_iter_items l.hash-iterator);
      alike : Alike (receive first (members_of l.yielded)) now;
      tracks : Tracks (g.S.Closed.members l.closed) (waiting_of l.waiting) (tracker l.pending);
      kept : remaining (vec_items l.came) (waiting_of l.waiting) ≡ remaining (vec_items l.fn.came) (waiting_of l.fn.waiting);
    }
