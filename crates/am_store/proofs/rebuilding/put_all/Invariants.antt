use Rattle.std.proofs.Common.{◌≡◌, ◌++◌, List, length, map, vec_items}
use Rattle.std.specs.Vec.Iter.{into_iter_items, into_iter_len}
use Rattle.am_types.specs.Members.{Member}
use Rattle.am_store.specs.Listed.{IsListed, placed}
use Rattle.am_store.proofs.rebuilding.put_all.Given as goal

abbrev pub invariant-loop-hash : goal.invariant-loop-hash
invariant-loop-hash l = record {
  left : l.yielded ++ into_iter_items l.hash-iterator ≡ into_iter_items l.initial.hash-iterator;
  count : into_iter_len l.hash-iterator ≡ length (into_iter_items l.hash-iterator);
  placed : (C : List Member) → IsListed C l.graph (vec_items l.fn.entries) → l.places.items ≡ map (placed l.yielded) C;
}
