use Rattle.std.proofs.Common.{ℕ, ◌≡◌, ◌+◌, ◌<◌, length, All, true}
use Rattle.am_graph.specs.Graphs.{ForSet, is_held}
use Rattle.am_graph.specs.Whole.{authors_of}
use Rattle.am_graph.specs.Walks.{waits, Walk}
use Rattle.am_graph.proofs.parts.Parts.table.Given as goal

abbrev pub invariant-loop : goal.invariant-loop
invariant-loop l = record {
  len : length l.table.items ≡ length (authors_of l.self);
  held : All (λ h. is_held l.self.held.entries h ≡ true) l.fn.heads;
  walk : ForSet l.self.held.entries (λ C. Walk (authors_of l.self) C l.fn.heads (waits l.pending) l.table.items);
  bound : (q : ℕ) → waits l.pending q ≡ true → q + l.counter < length l.self.held.entries;
}
