-- The fields of the first rows of columns.
--     with_first x n columns      the fields x, and behind them those of the first n rows
--     HaveFields n columns        there are n rows at least
--     AreBehind n columns rest    the rest is what is left behind n rows
use Rattle.std.specs.Prelude.{◌≡◌, ℕ, ◌≤◌, ◌++◌, length, take, drop}
use Rattle.am_fields.specs.Held.{FieldLists}
use Rattle.am_fields.specs.declared.field_columns.FieldColumns.{FieldColumns}

abbrev pub with_first : FieldLists → ℕ → FieldColumns → FieldLists
with_first x n columns = record {
  objects = x.objects ++ take n columns.objects;
  keys = x.keys ++ take n columns.keys;
  inserts = x.inserts ++ take n columns.inserts;
  actions = x.actions ++ take n columns.actions;
  values = x.values ++ take n columns.values;
  expands = x.expands ++ take n columns.expands;
  marks = x.marks ++ take n columns.marks;
}

pub record HaveFields (n : ℕ) (columns : FieldColumns) : Type 0 where
  pub objects : n ≤ length columns.objects
  pub keys : n ≤ length columns.keys
  pub inserts : n ≤ length columns.inserts
  pub actions : n ≤ length columns.actions
  pub values : n ≤ length columns.values
  pub expands : n ≤ length columns.expands
  pub marks : n ≤ length columns.marks

pub record AreBehind (n : ℕ) (columns rest : FieldColumns) : Type 0 where
  pub objects : rest.objects ≡ drop n columns.objects
  pub keys : rest.keys ≡ drop n columns.keys
  pub inserts : rest.inserts ≡ drop n columns.inserts
  pub actions : rest.actions ≡ drop n columns.actions
  pub values : rest.values ≡ drop n columns.values
  pub expands : rest.expands ≡ drop n columns.expands
  pub marks : rest.marks ≡ drop n columns.marks
