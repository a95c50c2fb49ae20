use Rattle.std.proofs.Common.{◌≡◌, drop}
use Rattle.am_colmeta.proofs.actors.ActorList.skip.Given as goal

abbrev pub invariant-loop-left : goal.invariant-loop-left
invariant-loop-left l = drop l.left l.self ≡ drop l.fn.n l.fn.self

abbrev pub decreases-loop-left : goal.decreases-loop-left
decreases-loop-left l = l.left
