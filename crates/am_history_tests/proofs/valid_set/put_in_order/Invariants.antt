use Rattle.am_types.specs.ValidSets.{Valid}
use Rattle.am_delivery.specs.Waiting.{members_of}
use Rattle.am_history_tests.proofs.valid_set.put_in_order.Given as goal

abbrev pub invariant-loop-place : goal.invariant-loop-place
invariant-loop-place l = Valid (members_of l.entries.items)
