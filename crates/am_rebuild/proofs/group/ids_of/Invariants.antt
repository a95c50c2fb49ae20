use Rattle.std.proofs.Common.{◌≡◌, map, take}
use Rattle.am_types.specs.Views.{id_of}
use Rattle.am_rebuild.proofs.group.ids_of.Given as goal

abbrev pub invariant-loop-row : goal.invariant-loop-row
invariant-loop-row l = map id_of l.ids.items ≡ map (λ r. r.now.id) (take l.row-index l.rows)
