-- Tables whose rows are lent.
--     table_of t     the table t, without the places of its heads
use Rattle.std.specs.Prelude.{None}
use Rattle.am_types.specs.declared.Table.{Table}
use Rattle.am_rebuild.specs.declared.judgement.LentTable.{LentTable}

abbrev pub table_of : LentTable → Table
table_of t = record { actors = t.actors.now; heads = t.heads.now; metas = t.metas.now; rows = t.rows.now; suffix = None }
