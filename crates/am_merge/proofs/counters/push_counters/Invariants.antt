use Rattle.std.proofs.Common.{◌≡◌, ◌++◌, take}
use Rattle.am_merge.specs.Naming.{counters_in}
use Rattle.am_merge.proofs.counters.push_counters.Given as goal

abbrev pub invariant-loop-i : goal.invariant-loop-i
invariant-loop-i l = l.counters.items ≡ l.initial.counters.items ++ counters_in (take l.i l.table)
