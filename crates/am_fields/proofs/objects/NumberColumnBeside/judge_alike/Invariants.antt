use Rattle.std.proofs.Common.{◌≡◌}
use Rattle.std.specs.Prelude.{IsSome}
use Rattle.am_fields.specs.Fields.{object_at as object_there}
use Rattle.am_fields.proofs.Judging.{Judged}
use Rattle.am_fields.proofs.objects.NumberColumnBeside.judge_alike.Given as goal

abbrev pub invariant-loop-left : goal.invariant-loop-left
invariant-loop-left l = (l.actors ≡ l.fn.actors) × Judged (λ cell. IsSome (object_there l.fn.actors l.place cell)) l.n l.fn.self l.left l.self

abbrev pub decreases-loop-left : goal.decreases-loop-left
decreases-loop-left l = l.left
