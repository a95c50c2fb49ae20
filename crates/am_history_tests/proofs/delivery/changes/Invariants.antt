use Rattle.std.proofs.Common.{All}
use Rattle.am_types.specs.Deliver.{MayCome}
use Rattle.am_delivery.specs.Waiting.{members_of}
use Rattle.am_history_tests.proofs.delivery.changes.Given as goal

abbrev pub invariant-loop-sample : goal.invariant-loop-sample
invariant-loop-sample l = All MayCome (members_of l.changes.items)
