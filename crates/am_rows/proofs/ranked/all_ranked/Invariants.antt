use Rattle.std.proofs.Common.{◌≡◌, All, map, take}
use Rattle.am_places.specs.Numbered.{operation_of}
use Rattle.am_rows.specs.Ranked.{IsRanked}
use Rattle.am_rows.proofs.ranked.all_ranked.Given as goal

abbrev pub invariant-loop-i : goal.invariant-loop-i
invariant-loop-i l = record {
  kept : map (λ r. r.kept) l.ranked.items ≡ take l.i l.kept;
  ranked : All (IsRanked (map operation_of l.operations)) l.ranked.items;
}
