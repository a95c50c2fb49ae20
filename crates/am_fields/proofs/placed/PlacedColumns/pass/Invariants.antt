use Rattle.std.proofs.Common.{◌≡◌, ◌≤◌, drop}
use Rattle.am_fields.proofs.placed.PlacedColumns.pass.Given as goal

abbrev pub invariant-loop-passed : goal.invariant-loop-passed
invariant-loop-passed g l = (l._passed ≤ l.n) × (l.self ≡ drop l._passed l.initial.self)
