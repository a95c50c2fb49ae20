use Rattle.std.proofs.Common.{ℕ, ◌≡◌, ◌||◌, true, take}
use Rattle.std.specs.List.{AllWithin}
use Rattle.am_graph.specs.Graphs.{is_held}
use Rattle.am_graph.specs.Walks.{waits, is_place_of}
use Rattle.am_graph.proofs.walk.wait.Given as goal

abbrev pub invariant-loop-hash : goal.invariant-loop-hash
invariant-loop-hash l = record {
  waits : (k : ℕ) → waits l.pending k ≡ (waits l.initial.pending k || is_place_of l.held.entries (take l.hash-index l.hashes) k);
  held : AllWithin (λ h. is_held l.held.entries h ≡ true) l.hashes 0 l.hash-index;
}
