-- What a writer of rows, or of change rows, holds.
--     row_lists rows                    the common fields of rows
--     RowsHeld actors rows ..           the writers hold these rows, each of which may be written
--     rows_written failed ..            the rows that were pushed, as long as memory was had
--     IsWritingRows failed ..           while memory is had, the writers hold just those rows
use Rattle.std.specs.Prelude.{◌≡◌, ℕ, ◌≤◌, List, length, map, Option, Some, None, Bool, true, false}
use Rattle.std.specs.List.{AllByRecursion}
use Rattle.am_types.specs.declared.Row.{Row}
use Rattle.am_types.specs.Limits.{most_operations}
use Rattle.am_fields.specs.Layout.{flat}
use Rattle.am_fields.specs.declared.field_writer.FieldWriter.{FieldWriter}
use Rattle.am_fields.specs.declared.id_writer.IdWriter.{IdWriter}
use Rattle.am_doccols.specs.Conditions.{IsRowFor, succ_count}
use Rattle.am_fields.specs.Held.{FieldLists, FieldsHeld, IdsHeld}
use Rattle.am_doccols.specs.Back.{rows_back}

abbrev pub row_lists : List Row → FieldLists
row_lists rows = record {
  objects = map (λ r. r.obj) rows;
  keys = map (λ r. r.key) rows;
  inserts = map (λ r. r.insert) rows;
  actions = map (λ r. r.action) rows;
  values = map (λ r. r.value) rows;
  expands = map (λ r. r.expand) rows;
  marks = map (λ r. r.mark) rows;
}

pub record RowsHeld (actors : List (List ℕ)) (rows : List Row) (fields : FieldWriter) (ids : IdWriter) (lengths : Option (List (Option ℕ))) (succs : IdWriter) : Type 0 where
  pub fields_are : FieldsHeld actors (row_lists rows) fields
  pub ids_are : IdsHeld actors (map (λ r. r.id) rows) ids
  pub lengths_are : lengths ≡ Some (map Some (map length (map (λ r. r.succs) rows)))
  pub succs_are : IdsHeld actors (flat (map (λ r. r.succs) rows)) succs
  pub all : AllByRecursion (IsRowFor actors) rows
  pub few : length rows ≤ most_operations
  pub few_succs : succ_count rows ≤ most_operations

abbrev pub rows_written : Bool → List (List ℕ) → FieldWriter → IdWriter → Option (List (Option ℕ)) → IdWriter → Option (List Row)
rows_written true actors fields ids lengths succs = None
rows_written false actors fields ids lengths succs = Some (rows_back actors fields ids lengths succs)

abbrev pub IsWritingRows : Bool → List (List ℕ) → FieldWriter → IdWriter → Option (List (Option ℕ)) → IdWriter → Type 0
IsWritingRows true actors fields ids lengths succs = Unit {0}
IsWritingRows false actors fields ids lengths succs = RowsHeld actors (rows_back actors fields ids lengths succs) fields ids lengths succs
