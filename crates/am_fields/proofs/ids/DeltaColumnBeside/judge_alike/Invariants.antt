use Rattle.std.proofs.Common.{◌≡◌}
use Rattle.std.specs.Prelude.{IsSome}
use Rattle.am_fields.specs.Fields.{id_at as id_there}
use Rattle.am_fields.proofs.Judging.{Judged}
use Rattle.am_fields.proofs.ids.DeltaColumnBeside.judge_alike.Given as goal

abbrev pub invariant-loop-left : goal.invariant-loop-left
invariant-loop-left l = (l.actors ≡ l.fn.actors) × Judged (λ cell. IsSome (id_there l.fn.actors l.place cell)) l.n l.fn.self l.left l.self

abbrev pub decreases-loop-left : goal.decreases-loop-left
decreases-loop-left l = l.left
