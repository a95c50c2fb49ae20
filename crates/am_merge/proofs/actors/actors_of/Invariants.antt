use Rattle.std.proofs.Common.{◌≡◌, map, take}
use Rattle.am_merge.proofs.actors.actors_of.Given as goal

abbrev pub invariant-loop-i : goal.invariant-loop-i
invariant-loop-i l = l.actors ≡ map (λ a. a.now) (take l.i l.all)
