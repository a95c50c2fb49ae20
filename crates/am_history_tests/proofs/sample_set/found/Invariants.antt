use Rattle.std.proofs.Common.{◌≡◌, take, None}
use Rattle.am_types.specs.Members.{member}
use Rattle.am_delivery.specs.Waiting.{members_of}
use Rattle.am_history_tests.proofs.sample_set.found.Given as goal

abbrev pub invariant-loop-entry : goal.invariant-loop-entry
invariant-loop-entry l = member (members_of (take l.entry-index l.held)) l.hash ≡ None
