use Rattle.std.proofs.Common.{ℕ, Bool, ◌≡◌, ◌<◌, length, get_or, take}
use Rattle.am_types.specs.declared.Hash.{Hash}
use Rattle.am_graph.specs.declared.node.Node.{Node}
use Rattle.am_graph.specs.Graphs.{is_named_in}
use Rattle.am_graph.proofs.Marking.{Marked}
use Rattle.am_graph.proofs.graph.Graph.named.Given as goal

abbrev pub invariant-loop-i : goal.invariant-loop-i
invariant-loop-i l = record {
  size : length l.named.items ≡ length l.self-inside.parts.held.entries;
  marked : (k : ℕ) (b : Bool) (e : Hash × Node) → k < length l.self-inside.parts.held.entries → get_or l.named.items k b ≡ is_named_in (take l.i l.self-inside.parts.held.entries) (get_or l.self-inside.parts.held.entries k e).0;
}

abbrev pub invariant-loop-dep : goal.invariant-loop-dep
invariant-loop-dep l = record {
  size : length l.named.items ≡ length l.self-inside.parts.held.entries;
  marked : Marked l.self-inside.parts.held.entries l.named.items l.i l.dep-items l.dep-index;
}
