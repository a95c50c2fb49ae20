-- What holds of each table that contents spell.
--     IsSpelled t     some contents spell the table t
--     IsSound t       its rows and change rows are within their limits, its heads ascend, its actors have 1 to 1,024 bytes,
--                     and those that its rows name are among them
use Rattle.std.specs.Prelude.{ℕ, List, All}
use Rattle.am_types.specs.declared.Table.{Table}
use Rattle.am_types.specs.Order.{hash_cmp, Ascends}
use Rattle.am_laws.specs.Tables.{IsListed, row_actors}
use Rattle.am_fields.specs.Limits.{IsShortActor}
use Rattle.am_doccols.specs.Columns.{AreRowsWithin, AreMetasWithin}
use Rattle.am_doc.specs.Spelling.{SpellsTable}

pub record IsSpelled (t : Table) : Type 0 where
  pub bytes : List ℕ
  pub spelled : SpellsTable bytes t

pub record IsSound (t : Table) : Type 0 where
  pub rows : AreRowsWithin t.rows
  pub metas : AreMetasWithin t.metas
  pub heads : Ascends hash_cmp t.heads
  pub short : All IsShortActor t.actors
  pub authors : All (λ m. IsListed t.actors m.actor) t.metas
  pub named : All (λ r. All (IsListed t.actors) (row_actors r)) t.rows
