use Rattle.std.proofs.Common.{◌≡◌, take}
use Rattle.am_graph.specs.Graphs.{has}
use Rattle.am_graph.proofs.Found.{wanted_among}
use Rattle.am_graph.proofs.graph.Graph.ancestors.Given as goal

abbrev pub invariant-loop-i : goal.invariant-loop-i
invariant-loop-i l = l.found.items ≡ wanted_among (has l.wanted) (take l.i l.self-inside.parts.held.entries)
