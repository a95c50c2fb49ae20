use Rattle.std.proofs.Common.{◌≡◌, take, find, None}
use Rattle.am_types.specs.Verdicts.{has_seq}
use Rattle.am_delivery.specs.Waiting.{members_of}
use Rattle.am_history_tests.proofs.sample_set.clashing.Given as goal

abbrev pub invariant-loop-entry : goal.invariant-loop-entry
invariant-loop-entry l = find (has_seq l.change.actor l.change.seq) (members_of (take l.entry-index l.held)) ≡ None
