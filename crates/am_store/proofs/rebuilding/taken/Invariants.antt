use Rattle.std.proofs.Common.{◌≡◌}
use Rattle.am_store.specs.Listed.{standing}
use Rattle.am_store.proofs.rebuilding.taken.Given as goal

abbrev pub invariant-loop-place : goal.invariant-loop-place
invariant-loop-place l = l.entries.items ≡ standing l.yielded
