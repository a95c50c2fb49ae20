use Rattle.std.proofs.Common.{◌≡◌, replicate}
use Rattle.am_graph.specs.Reaches.{unreached}
use Rattle.am_graph.proofs.walk.blank.Given as goal

abbrev pub invariant-loop : goal.invariant-loop
invariant-loop l = l.table.items ≡ replicate l.counter unreached
