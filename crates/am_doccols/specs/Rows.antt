-- Operation rows field by field, as a cursor reads them.
--     row_from fields              the row with these fields
--     rows_from objects keys ..    the rows with these fields
--     rows_in c                    the rows of the columns c
--     AreEven c                    the columns c have one item a row each, and the rows at most 2^22 successors together
--     row_of r                     what a lent row stands for
--     blank                        a row that says nothing
use Rattle.std.specs.Prelude.{ℕ, ◌≡◌, ◌≤◌, List, [], length, map, Option, None, option_map, Bool, false}
use Rattle.std.specs.List.{zip}
use Rattle.am_types.specs.declared.OpId.{OpId}
use Rattle.am_types.specs.declared.ObjId.{ObjId}
use Rattle.am_types.specs.declared.ObjId.TheVariants.{Root}
use Rattle.am_types.specs.declared.Key.{Key}
use Rattle.am_types.specs.declared.Key.TheVariants.{Head}
use Rattle.am_types.specs.declared.RawValue.{RawValue}
use Rattle.am_types.specs.declared.Row.{Row}
use Rattle.am_types.specs.Views.{id_of, object_of, key_of, value_of}
use Rattle.am_types.specs.Limits.{most_operations}
use Rattle.am_fields.specs.Layout.{flat}
use Rattle.am_doccols.specs.declared.row.RowRef.{RowRef}
use Rattle.am_doccols.specs.declared.row_columns.RowColumns.{RowColumns}

abbrev pub Fields : Type 0
Fields = ObjId × (Key × (OpId × (Bool × (ℕ × (RawValue × (List OpId × (Bool × Option (List ℕ))))))))

abbrev pub row_from : Fields → Row
row_from f = record {
  obj = f.0;
  key = f.1.0;
  id = f.1.1.0;
  insert = f.1.1.1.0;
  action = f.1.1.1.1.0;
  value = f.1.1.1.1.1.0;
  succs = f.1.1.1.1.1.1.0;
  expand = f.1.1.1.1.1.1.1.0;
  mark = f.1.1.1.1.1.1.1.1;
}

abbrev pub rows_from : List ObjId → List Key → List OpId → List Bool → List ℕ → List RawValue → List (List OpId) → List Bool → List (Option (List ℕ)) → List Row
rows_from objects keys ids inserts actions values succs expands marks =
    map row_from (zip objects (zip keys (zip ids (zip inserts (zip actions (zip values (zip succs (zip expands marks))))))))

abbrev pub rows_in : RowColumns → List Row
rows_in c = rows_from c.objects c.keys c.ids c.inserts c.actions c.values c.succs c.expands c.marks

abbrev pub AreEven : RowColumns → Type 0
AreEven c =
    (length c.objects ≡ length c.actions)
    × (length c.keys ≡ length c.actions)
    × (length c.ids ≡ length c.actions)
    × (length c.inserts ≡ length c.actions)
    × (length c.values ≡ length c.actions)
    × (length c.succs ≡ length c.actions)
    × (length c.expands ≡ length c.actions)
    × (length c.marks ≡ length c.actions)
    × (length (flat c.succs) ≤ most_operations)

abbrev pub row_of : RowRef → Row
row_of r = record {
  obj = object_of r.obj;
  key = key_of r.key;
  id = id_of r.id;
  insert = r.insert;
  action = r.action;
  value = value_of r.value;
  succs = r.succs;
  expand = r.expand;
  mark = option_map (λ s. s.now) r.mark;
}

abbrev pub blank : Row
blank = record { obj = Root; key = Head; id = record { counter = 0; actor = [] }; insert = false; action = 0; value = record { kind = 0; raw = [] }; succs = []; expand = false; mark = None }
