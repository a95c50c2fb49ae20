use Rattle.std.proofs.Common.{◌≤◌, length, take}
use Rattle.am_graph.specs.Graphs.{ForSet}
use Rattle.am_graph.proofs.Deepest.{IsDeepest}
use Rattle.am_graph.proofs.parts.Parts.depth_above.Given as goal

abbrev pub invariant-loop-dep : goal.invariant-loop-dep
invariant-loop-dep l = record {
  deepest : ForSet l.self.held.entries (λ C. IsDeepest C (take l.dep-index l.deps) l.depth);
  shallow : l.depth ≤ length l.self.held.entries;
}
