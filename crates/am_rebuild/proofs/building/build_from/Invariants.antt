use Rattle.std.proofs.Common.{◌≡◌, ◌<◌, length}
use Rattle.am_types.specs.declared.Table.{Table}
use Rattle.am_change.specs.Hashes.{own_hash}
use Rattle.am_rebuild.specs.Joined.{BuiltGapless}
use Rattle.am_rebuild.specs.Mentions.{AreSortedMentions}
use Rattle.am_rebuild.proofs.building.build_from.Given as goal

abbrev pub invariant-loop-i : goal.invariant-loop-i
invariant-loop-i l = record {
  left : l.i < length l.metas → l.left.items ≡ l.fn.all.items;
  builds : (t : Table) → AreSortedMentions t.rows l.fn.all.items → t.metas ≡ l.metas → BuiltGapless own_hash t l.i l.gathered;
}
