use Rattle.std.proofs.Common.{◌≤◌, length}
use Rattle.std.specs.Prelude.{IfSome}
use Rattle.am_column_tests.proofs.delta.written.Given as goal

abbrev pub invariant-loop-value : goal.invariant-loop-value
invariant-loop-value g l = IfSome l.writer (λ list. length list ≤ l.value-index)
