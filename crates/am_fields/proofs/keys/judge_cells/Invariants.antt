use Rattle.std.proofs.Common.{◌≡◌, ◌≤◌, length, drop}
use Rattle.std.specs.Prelude.{IsSome}
use Rattle.std.specs.List.{zip}
use Rattle.am_fields.specs.Fields.{key_read}
use Rattle.am_fields.proofs.Judging.{Judged}
use Rattle.am_fields.proofs.keys.judge_cells.Given as goal

abbrev pub invariant-loop-left : goal.invariant-loop-left
invariant-loop-left l =
    (l.actors ≡ l.fn.actors)
    × Judged (λ cell. IsSome (key_read l.fn.actors l.place cell)) l.n (zip l.fn.counters l.fn.names) l.left (zip l.counters l.names)
    × (l.left ≤ length l.counters)
    × (l.left ≤ length l.names)
    × (drop l.n l.fn.counters ≡ drop l.left l.counters)
    × (drop l.n l.fn.names ≡ drop l.left l.names)

abbrev pub decreases-loop-left : goal.decreases-loop-left
decreases-loop-left l = l.left
