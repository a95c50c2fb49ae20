-- Operations that are lent.
--     lent_op o       the operation of the row of o, or the deletion of what it shows
use Rattle.std.specs.Prelude.{if◌then◌else◌, ◌&&◌, not, [], None}
use Rattle.am_types.specs.Actions as actions
use Rattle.am_types.specs.declared.Op.{Op}
use Rattle.am_histories.specs.Rebuilt.{slot_of}
use Rattle.am_rebuild.specs.declared.lent_op.LentOp.TheInside.{Inside}

abbrev pub lent_op : Inside → Op
lent_op o = record {
  obj = o.row.now.obj;
  key = if o.deletes then slot_of o.row.now else o.row.now.key;
  insert = not o.deletes && o.row.now.insert;
  action = if o.deletes then actions.del else o.row.now.action;
  value = if o.deletes then record { kind = 0; raw = [] } else o.row.now.value;
  preds = o.preds;
  expand = not o.deletes && o.row.now.expand;
  mark = if o.deletes then None else o.row.now.mark;
}
