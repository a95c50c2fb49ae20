use Rattle.std.proofs.Common.{◌≡◌, ◌++◌, map, drop, option_map}
use Rattle.am_merge.specs.ChangeRows.{old_places}
use Rattle.am_merge.proofs.order.places_of_old.Given as goal

abbrev pub invariant-loop-i : goal.invariant-loop-i
invariant-loop-i l = l.places.items ++ old_places l.i (map (option_map (λ c. c.now)) (drop l.i l.turns)) ≡ old_places 0 (map (option_map (λ c. c.now)) l.turns)
