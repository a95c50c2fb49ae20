use Rattle.std.proofs.Common.{◌≡◌, ◌≤◌, length, drop}
use Rattle.std.specs.HashMap.{get}
use Rattle.am_types.specs.declared.Hash.{Hash}
use Rattle.am_merge.specs.Places.{first_place, is_equal}
use Rattle.am_merge.proofs.lookup.places_of.Given as goal

abbrev pub invariant-loop-i : goal.invariant-loop-i
invariant-loop-i l = record {
  within : l.i ≤ length l.hashes;
  told : (h : Hash) → get is_equal l.places h ≡ first_place l.i (drop l.i l.hashes) h;
}

abbrev pub decreases-loop-i : goal.decreases-loop-i
decreases-loop-i l = l.i
