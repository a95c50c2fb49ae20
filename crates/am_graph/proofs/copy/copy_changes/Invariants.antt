use Rattle.std.proofs.Common.{◌≡◌, take}
use Rattle.am_graph.proofs.copy.copy_changes.Given as goal

abbrev pub invariant-loop-i : goal.invariant-loop-i
invariant-loop-i l = l.copy.entries ≡ take l.i l.held.entries
