use Rattle.std.proofs.Common.{◌≡◌, take, not}
use Rattle.am_graph.specs.Graphs.{is_named_in}
use Rattle.am_graph.proofs.Found.{wanted_among}
use Rattle.am_graph.proofs.graph.Graph.heads.Given as goal

abbrev pub invariant-loop-i : goal.invariant-loop-i
invariant-loop-i l = l.found.items ≡ wanted_among (λ h. not (is_named_in l.self-inside.parts.held.entries h)) (take l.i l.self-inside.parts.held.entries)
