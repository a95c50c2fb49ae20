use Rattle.std.proofs.Common.{take}
use Rattle.am_history_tests.specs.DeliverySamples.{Kept}
use Rattle.am_delivery.specs.Waiting.{members_of, waiting_of}
use Rattle.am_history_tests.proofs.delivery.deliver_all.Given as goal

abbrev pub invariant-loop-samples : goal.invariant-loop-samples
invariant-loop-samples g l = Kept (members_of l.closed.held.items) (members_of (take l.closed.resting l.closed.held.items)) (waiting_of l.waiting) l.pending
