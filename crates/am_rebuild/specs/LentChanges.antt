-- Changes that are lent.
--     lent_change c   the change whose parts c lends
use Rattle.am_types.specs.declared.Change.{Change}
use Rattle.am_rebuild.specs.declared.lent_change.LentChange.TheInside.{Inside}

abbrev pub lent_change : Inside → Change
lent_change c = record {
  deps = c.deps;
  actor = c.meta.now.actor;
  seq = c.meta.now.seq;
  start = c.start;
  time = c.meta.now.time;
  message = c.meta.now.message;
  ops = c.ops.items;
  extra = c.meta.now.extra;
}
