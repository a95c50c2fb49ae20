use Rattle.am_doccols.proofs.rows.RowCursor.spelled.Goals as goal

pub known-requires : goal.known-requires
known-requires c = rw c.of_document-actors.ensures c.requires

pub returns : goal.returns
returns c = rw c.of_document-actors.ensures at c.known.ensures
