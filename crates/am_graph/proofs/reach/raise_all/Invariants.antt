use Rattle.std.proofs.Common.{ℕ, ◌≡◌, ◌<◌, ◌≤◌}
use Rattle.am_graph.specs.Reaches.{reach_at, higher}
use Rattle.am_graph.proofs.reach.raise_all.Given as goal

abbrev pub invariant-loop-i : goal.invariant-loop-i
invariant-loop-i l = record {
  done : (a : ℕ) → a < l.i → reach_at l.table a ≡ higher (reach_at l.initial.table a) (reach_at l.to a);
  rest : (a : ℕ) → l.i ≤ a → reach_at l.table a ≡ reach_at l.initial.table a;
}
