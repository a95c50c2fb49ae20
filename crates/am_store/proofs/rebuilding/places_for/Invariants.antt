use Rattle.std.proofs.Common.{◌≡◌, None, map, take}
use Rattle.am_store.proofs.rebuilding.places_for.Given as goal

abbrev pub invariant-loop-entry : goal.invariant-loop-entry
invariant-loop-entry l = l.places.items ≡ map (λ e. None) (take l._entry-index l.entries)
