use Rattle.std.proofs.Common.{◌≡◌, map}
use Rattle.std.specs.Map.Iter.{deref_pair}
use Rattle.am_delivery.specs.Waiting.{unboxed}
use Rattle.am_store.proofs.copies.map_copied.Given as goal

abbrev pub invariant-loop-hash : goal.invariant-loop-hash
invariant-loop-hash l = unboxed l.twin.entries ≡ unboxed (map deref_pair l.yielded)
