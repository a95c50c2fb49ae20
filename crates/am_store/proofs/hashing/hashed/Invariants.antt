use Rattle.std.proofs.Common.{◌≡◌, All, take, vec_items}
use Rattle.am_types.specs.Deliver.{MayCome}
use Rattle.am_delivery.specs.Waiting.{members_of}
use Rattle.am_change.specs.Hashes.{with_hashes}
use Rattle.am_store.proofs.hashing.hashed.Given as goal

abbrev pub invariant-loop-change : goal.invariant-loop-change
invariant-loop-change l = record {
  own_hashes : members_of (vec_items l.pairs) ≡ with_hashes (take l.change-index l.changes);
  may_come : All MayCome (members_of (vec_items l.pairs));
}
