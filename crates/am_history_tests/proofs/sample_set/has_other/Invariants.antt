use Rattle.std.proofs.Common.{◌≡◌, take, find, None}
use Rattle.am_history_tests.specs.DeliverySamples.{isnt_bare}
use Rattle.am_delivery.specs.Waiting.{members_of}
use Rattle.am_history_tests.proofs.sample_set.has_other.Given as goal

abbrev pub invariant-loop-entry : goal.invariant-loop-entry
invariant-loop-entry l = find isnt_bare (members_of (take l.entry-index l.held)) ≡ None
