use Rattle.std.proofs.Common.{◌≡◌, take, true}
use Rattle.std.specs.List.{list_all}
use Rattle.am_types.specs.Members.{holds}
use Rattle.am_graph.specs.Graphs.{ForSet}
use Rattle.am_history_tests.proofs.valid_set.holds_all.Given as goal

abbrev pub invariant-loop-hash : goal.invariant-loop-hash
invariant-loop-hash l = ForSet l.graph (λ C. list_all (holds C) (take l.hash-index l.hashes) ≡ true)
