use Rattle.std.proofs.Common.{◌≡◌, map, take}
use Rattle.am_graph.specs.Graphs.{ForSet}
use Rattle.am_graph.specs.Ranks.{rank_of, rank_in}
use Rattle.am_graph.proofs.graph.Graph.ranks.Given as goal

abbrev pub invariant-loop-i : goal.invariant-loop-i
invariant-loop-i l = ForSet l.self-inside.parts.held.entries (λ C. map rank_of l.ranks.items ≡ map (rank_in C) (take l.i C))
