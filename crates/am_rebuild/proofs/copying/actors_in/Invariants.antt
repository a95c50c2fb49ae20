use Rattle.std.proofs.Common.{◌≡◌, ◌++◌, length}
use Rattle.std.specs.List.{AllByRecursion}
use Rattle.am_fields.specs.Limits.{IsShortActor}
use Rattle.am_rebuild.proofs.copying.actors_in.Given as goal

abbrev pub invariant-loop-actor : goal.invariant-loop-actor
invariant-loop-actor l = (AllByRecursion IsShortActor l.rest) × (l.copy ++ l.rest ≡ l.fn.actors)

abbrev pub decreases-loop-actor : goal.decreases-loop-actor
decreases-loop-actor l = length l.rest
