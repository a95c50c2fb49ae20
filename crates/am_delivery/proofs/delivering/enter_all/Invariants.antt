use Rattle.std.proofs.Common.{map}
use Rattle.std.specs.Map.Iter.{deref_pair}
use Rattle.am_delivery.specs.Tracking.{Tracks}
use Rattle.am_delivery.specs.Views.{tracker}
use Rattle.am_delivery.specs.Waiting.{members_of, unboxed}
use Rattle.am_delivery.proofs.delivering.enter_all.Given as goal

abbrev pub invariant-loop-hash : goal.invariant-loop-hash
invariant-loop-hash g l = Tracks (g.S.Closed.members l.closed) (members_of (unboxed (map deref_pair l.yielded))) (tracker l.pending)
