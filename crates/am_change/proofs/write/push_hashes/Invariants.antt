use Rattle.std.proofs.Common.{◌≡◌, ◌++◌, take}
use Rattle.std.specs.List.{flat_map}
use Rattle.am_change.proofs.write.push_hashes.Given as goal

abbrev pub invariant-loop-hash : goal.invariant-loop-hash
invariant-loop-hash l = l.out.items ≡ l.initial.out.items ++ flat_map (λ h. h.0) (take l.hash-index l.hashes)
