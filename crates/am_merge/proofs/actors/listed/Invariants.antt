use Rattle.std.proofs.Common.{◌≡◌, ◌++◌, length, map}
use Rattle.am_merge.proofs.actors.listed.Given as goal

abbrev pub invariant-loop-actor : goal.invariant-loop-actor
invariant-loop-actor l = map (λ a. a.now) l.names.items ++ l.rest ≡ l.fn.old

abbrev pub decreases-loop-actor : goal.decreases-loop-actor
decreases-loop-actor l = length l.rest
