use Rattle.std.proofs.Common.{◌≡◌, option_map}
use Rattle.std.specs.Prelude.{IsSome}
use Rattle.am_fields.specs.Fields.{key_at as key_there}
use Rattle.am_fields.proofs.Judging.{Judged}
use Rattle.am_fields.proofs.keys.judge_counters.Given as goal

abbrev pub invariant-loop-left : goal.invariant-loop-left
invariant-loop-left l = (l.actors ≡ l.fn.actors) × Judged (λ z. IsSome (key_there l.fn.actors l.place z (option_map (λ s. s.now) l.name))) l.n l.fn.counters l.left l.counters

abbrev pub decreases-loop-left : goal.decreases-loop-left
decreases-loop-left l = l.left
