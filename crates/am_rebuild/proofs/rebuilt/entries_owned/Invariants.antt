use Rattle.std.proofs.Common.{◌≡◌, ◌++◌, length}
use Rattle.std.specs.Vec.Iter.{into_iter_items, into_iter_len}
use Rattle.am_rebuild.proofs.rebuilt.entries_owned.Given as goal

abbrev pub invariant-loop-hash : goal.invariant-loop-hash
invariant-loop-hash l = record {
  left : l.yielded ++ into_iter_items l.hash-iterator ≡ into_iter_items l.initial.hash-iterator;
  count : into_iter_len l.hash-iterator ≡ length (into_iter_items l.hash-iterator);
  owned : l.entries.items ≡ l.yielded;
}
