-- Rows and change rows that are taken out of their columns.
--     with_rows x rows              the common fields x, and behind them those of the rows
--     Takes actors rows ..          the writers hold the rows too, behind what they held
--     HasRoomFor rows more          so many more may be written behind those that were
--     HasMetaRoomFor metas more     the same of change rows
use Rattle.std.specs.Prelude.{◌≡◌, ℕ, ◌+◌, ◌≤◌, List, ◌++◌, length, map, Option, Some, IfSome}
use Rattle.am_types.specs.declared.OpId.{OpId}
use Rattle.am_types.specs.declared.Row.{Row}
use Rattle.am_types.specs.declared.Meta.{Meta}
use Rattle.am_types.specs.Limits.{most_changes, most_operations}
use Rattle.am_fields.specs.Layout.{flat}
use Rattle.am_fields.specs.Held.{FieldLists, FieldsHeld, IdsHeld}
use Rattle.am_fields.specs.declared.field_writer.FieldWriter.{FieldWriter}
use Rattle.am_fields.specs.declared.id_writer.IdWriter.{IdWriter}
use Rattle.am_fields.specs.Rooms.{IsOpenFor, FieldsHaveRoomFor}
use Rattle.am_doccols.specs.Conditions.{succ_count, dep_count}

abbrev pub with_rows : FieldLists → List Row → FieldLists
with_rows x rows = record {
  objects = x.objects ++ map (λ r. r.obj) rows;
  keys = x.keys ++ map (λ r. r.key) rows;
  inserts = x.inserts ++ map (λ r. r.insert) rows;
  actions = x.actions ++ map (λ r. r.action) rows;
  values = x.values ++ map (λ r. r.value) rows;
  expands = x.expands ++ map (λ r. r.expand) rows;
  marks = x.marks ++ map (λ r. r.mark) rows;
}

pub record Takes (actors : List (List ℕ)) (rows : List Row) (f : FieldWriter) (i : IdWriter) (l : Option (List (Option ℕ))) (s : IdWriter) (f' : FieldWriter) (i' : IdWriter) (l' : Option (List (Option ℕ))) (s' : IdWriter) : Type 0 where
  pub fields_step : (x : FieldLists) → FieldsHeld actors x f → FieldsHeld actors (with_rows x rows) f'
  pub ids_step : (ids : List OpId) → IdsHeld actors ids i → IdsHeld actors (ids ++ map (λ r. r.id) rows) i'
  pub lengths_step : IfSome l (λ xs. l' ≡ Some (xs ++ map Some (map length (map (λ r. r.succs) rows))))
  pub succs_step : (ids : List OpId) → IdsHeld actors ids s → IdsHeld actors (ids ++ flat (map (λ r. r.succs) rows)) s'

-- the writers have room for n rows with m successors
pub record AreOpenFor (n m : ℕ) (f : FieldWriter) (i : IdWriter) (l : Option (List (Option ℕ))) (s : IdWriter) : Type 0 where
  pub fields : FieldsHaveRoomFor n f
  pub places : IsOpenFor n i.places
  pub counters : IsOpenFor n i.counters
  pub lengths : IsOpenFor n l
  pub succ_places : IsOpenFor m s.places
  pub succ_counters : IsOpenFor m s.counters

pub record HasRoomFor (rows more : List Row) : Type 0 where
  pub few : length rows + length more ≤ most_operations
  pub few_succs : succ_count rows + succ_count more ≤ most_operations

pub record HasMetaRoomFor (metas more : List Meta) : Type 0 where
  pub few : length metas + length more ≤ most_changes
  pub few_deps : dep_count metas + dep_count more ≤ most_operations
