use Rattle.std.proofs.Common.{◌≡◌, All, map, take, vec_items}
use Rattle.am_types.specs.Deliver.{MayCome}
use Rattle.am_change.specs.Hashes.{own_pair, with_hashes}
use Rattle.am_change.proofs.hashing.with_hashes.Given as goal

abbrev pub invariant-loop-change : goal.invariant-loop-change
invariant-loop-change l = record {
  own : vec_items l.pairs ≡ map own_pair (take l.change-index l.changes);
  may_come : All MayCome (with_hashes (take l.change-index l.changes));
}
