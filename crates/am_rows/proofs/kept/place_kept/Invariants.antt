use Rattle.std.proofs.Common.{◌≡◌, All, filter, map, take}
use Rattle.am_places.specs.Numbered.{operation_of}
use Rattle.am_places.specs.Placed.{IsPlaced}
use Rattle.am_rows.specs.Lent.{kept_operation}
use Rattle.am_rows.specs.Making.{stays}
use Rattle.am_rows.proofs.kept.place_kept.Given as goal

abbrev pub invariant-loop-i : goal.invariant-loop-i
invariant-loop-i l = record {
  kept : map kept_operation l.found.items ≡ filter stays (map operation_of (take l.i l.operations));
  placed : All (λ k. IsPlaced (map operation_of l.operations) k.placed) l.found.items;
}
