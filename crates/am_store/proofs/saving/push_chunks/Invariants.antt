use Rattle.std.proofs.Common.{◌≡◌, ◌++◌, map}
use Rattle.std.specs.Map.Iter.{deref_pair}
use Rattle.am_delivery.specs.Waiting.{members_of, unboxed}
use Rattle.am_store.specs.Saved.{chunks}
use Rattle.am_store.proofs.saving.push_chunks.Given as goal

abbrev pub invariant-loop-change : goal.invariant-loop-change
invariant-loop-change l = l.file ≡ l.fn.file ++ chunks (members_of (unboxed (map deref_pair l.yielded)))
