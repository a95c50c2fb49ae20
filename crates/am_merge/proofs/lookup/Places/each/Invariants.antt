use Rattle.std.proofs.Common.{◌≡◌, map, take}
use Rattle.am_merge.specs.Places.{place_in}
use Rattle.am_merge.proofs.lookup.Places.each.Given as goal

abbrev pub invariant-loop-hash : goal.invariant-loop-hash
invariant-loop-hash l = l.places ≡ map (λ h. place_in l.self h) (take l.hash-index l.hashes)
