use Rattle.std.proofs.Common.{◌≡◌, length, map, take}
use Rattle.am_histories.specs.Rebuilt.{hash_at}
use Rattle.am_rebuild.specs.Joined.{AreBelow}
use Rattle.am_rebuild.proofs.change.hashes_at.Given as goal

abbrev pub invariant-loop-place : goal.invariant-loop-place
invariant-loop-place l = record {
  count : l.count ≡ length l.gathered;
  below : AreBelow (length l.gathered) (take l.place-index l.places);
  are : l.hashes.items ≡ map (hash_at l.gathered) (take l.place-index l.places);
}
