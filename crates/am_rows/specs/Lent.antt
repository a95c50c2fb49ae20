-- What rows stand for that are lent from changes.
--     ids_in ns             the ids of numbered operations
--     lent_row r            the row of the operation, with the ids of those that name it
--     kept_operation k      the operation that has a row
--     rows_lent ..          the rows of the operations that have one, in their order
--     AreLent ..            the lists beside the operations have those that name each, and each that has a row is placed
use Rattle.std.specs.Prelude.{◌≡◌, List, map, All, Vec, vec_items}
use Rattle.std.specs.Global.{Global}
use Rattle.am_types.specs.declared.OpId.{OpId}
use Rattle.am_types.specs.declared.Row.{Row}
use Rattle.am_types.specs.Operations.{Operation}
use Rattle.am_types.specs.Rows.{row_of}
use Rattle.am_places.specs.declared.Numbered.{Numbered}
use Rattle.am_places.specs.Numbered.{operation_of, ids_of}
use Rattle.am_places.specs.Placed.{IsPlaced}
use Rattle.am_places.specs.Sound.{Sound}
use Rattle.am_rows.specs.Making.{operation_at, row_in}
use Rattle.am_rows.specs.Naming.{named_all}
use Rattle.am_rows.specs.declared.lent.LentRow.{LentRow}
use Rattle.am_rows.specs.declared.kept.Kept.{Kept}

abbrev pub ids_in : Vec Numbered Global → List OpId
ids_in v = ids_of v.items

abbrev pub lent_row : LentRow → Row
lent_row r = row_of (ids_of r.succs.now) (operation_of r.operation)

abbrev pub kept_operation : Kept → Operation
kept_operation k = operation_at k.placed

abbrev pub rows_lent : List Numbered → List Kept → List Row
rows_lent ns ks = map (λ k. row_in (map operation_of ns) (kept_operation k)) ks

pub record AreLent (ns : List Numbered) (lists : List (Vec Numbered Global)) (ks : List Kept) : Type 0 where
  pub sound : Sound (map operation_of ns)
  pub named : map ids_in lists ≡ named_all (map operation_of ns)
  pub placed : All (λ k. IsPlaced (map operation_of ns) k.placed) ks
