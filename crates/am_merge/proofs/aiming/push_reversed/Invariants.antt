use Rattle.std.proofs.Common.{◌≡◌, ◌++◌, length, reverse}
use Rattle.am_merge.proofs.aiming.push_reversed.Given as goal

abbrev pub invariant-rest : goal.invariant-rest
invariant-rest l = l.aims.items ++ reverse l.more.items ≡ l.initial.aims.items ++ reverse l.initial.more.items

abbrev pub decreases-rest : goal.decreases-rest
decreases-rest l = length l.more.items
