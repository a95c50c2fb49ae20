-- Rows that are lent.
--     lent_row r     the row whose fields r lends
use Rattle.std.specs.Prelude.{map, option_map}
use Rattle.am_types.specs.declared.Row.{Row}
use Rattle.am_types.specs.Views.{id_of, object_of, key_of, value_of}
use Rattle.am_rebuild.specs.declared.lent.LentRow.TheInside.{Inside}

abbrev pub lent_row : Inside → Row
lent_row r = record {
  obj = object_of r.obj;
  key = key_of r.key;
  id = id_of r.id;
  insert = r.insert;
  action = r.action;
  value = value_of r.value;
  succs = map id_of r.succs.items;
  expand = r.expand;
  mark = option_map (λ s. s.now) r.mark;
}
