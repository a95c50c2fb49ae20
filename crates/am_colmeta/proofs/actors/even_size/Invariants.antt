use Rattle.std.proofs.Common.{◌≡◌, ◌-◌, length}
use Rattle.std.specs.List.{AllByRecursion}
use Rattle.am_colmeta.specs.Reading.{parts, first_prefixed}
use Rattle.am_colmeta.proofs.actors.even_size.Given as goal

abbrev pub invariant-loop-actor : goal.invariant-loop-actor
invariant-loop-actor l = AllByRecursion (λ a. length a ≡ length l.first) l.rest → AllByRecursion (λ a. length a ≡ length l.first) (parts first_prefixed (l.fn.count - 1) l.others)

abbrev pub decreases-loop-actor : goal.decreases-loop-actor
decreases-loop-actor l = length l.rest
