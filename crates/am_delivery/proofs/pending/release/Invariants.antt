use Rattle.std.proofs.Common.{◌≡◌, ◌+◌, ◌&&◌, ◌||◌, ◌==◌, count_by, take}
use Rattle.std.specs.List.{list_any}
use Rattle.std.specs.Map.{count_at}
use Rattle.std.specs.HashMap.{get}
use Rattle.std.specs.BTreeSet.{contains}
use Rattle.am_types.specs.declared.Hash.{Hash}
use Rattle.am_types.specs.Order.{hash_cmp, same}
use Rattle.am_delivery.specs.Views.{is_equal}
use Rattle.am_delivery.proofs.pending.release.Given as goal

abbrev pub invariant-loop-h : goal.invariant-loop-h
invariant-loop-h l = record {
  counts : (g : Hash) → count_at (get is_equal l.missing) g + count_by (same hash_cmp g) (take l.h-index l.waiting) ≡ count_at (get is_equal l.fn.missing) g;
  ready : (g : Hash) → contains hash_cmp l.ready g ≡ (contains hash_cmp l.fn.ready g || list_any (same hash_cmp g) (take l.h-index l.waiting) && count_at (get is_equal l.missing) g == 0);
}
