use Rattle.std.specs.List.{AllWithin}
use Rattle.am_types.specs.Bytes.{IsHash}
use Rattle.am_types.proofs.known.hashes_known.Given as goal

abbrev pub invariant-loop-hash : goal.invariant-loop-hash
invariant-loop-hash l = AllWithin IsHash l.hashes 0 l.hash-index
