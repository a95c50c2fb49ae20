use Rattle.std.proofs.Common.{◌≡◌, ◌++◌, length}
use Rattle.std.specs.List.{AllByRecursion}
use Rattle.am_fields.specs.Limits.{IsShortActor}
use Rattle.am_rebuild.proofs.copying.metas_in.Given as goal

abbrev pub invariant-loop-meta : goal.invariant-loop-meta
invariant-loop-meta l = (AllByRecursion (λ m. IsShortActor m.actor) l.rest) × (l.copy ++ l.rest ≡ l.fn.metas)

abbrev pub decreases-loop-meta : goal.decreases-loop-meta
decreases-loop-meta l = length l.rest
