-- Tables whose rows are lent.
--     lent_table t     the table that it stands for
use Rattle.am_types.specs.declared.Table.{Table}
use Rattle.am_doc.specs.declared.lent.LentTable.{LentTable}

abbrev pub lent_table : LentTable → Table
lent_table t = record { actors = t.actors; heads = t.heads; metas = t.metas; rows = t.rows; suffix = t.suffix }
