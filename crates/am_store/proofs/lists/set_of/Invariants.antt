use Rattle.std.proofs.Common.{◌≡◌, take}
use Rattle.std.specs.BTreeSet.{contains}
use Rattle.am_types.specs.declared.Hash.{Hash}
use Rattle.am_types.specs.Order.{hash_cmp, among}
use Rattle.am_store.proofs.lists.set_of.Given as goal

abbrev pub invariant-loop-hash : goal.invariant-loop-hash
invariant-loop-hash l = (h : Hash) → contains hash_cmp l.set h ≡ among hash_cmp (take l.hash-index l.hashes) h
