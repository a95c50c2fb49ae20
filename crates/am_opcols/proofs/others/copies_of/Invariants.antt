use Rattle.std.proofs.Common.{◌≡◌, map, take}
use Rattle.am_opcols.proofs.others.copies_of.Given as goal

abbrev pub invariant-loop-i : goal.invariant-loop-i
invariant-loop-i l = l.copies.items ≡ map (λ a. a.now) (take l.i l.actors)
