use Rattle.std.proofs.Common.{◌≡◌, true}
use Rattle.std.specs.List.{AllWithin}
use Rattle.am_graph.specs.Graphs.{is_held}
use Rattle.am_graph.proofs.graph.Graph.first_missing.Given as goal

abbrev pub invariant-loop-hash : goal.invariant-loop-hash
invariant-loop-hash l = AllWithin (λ h. is_held l.self-inside.parts.held.entries h ≡ true) l.hashes 0 l.hash-index
