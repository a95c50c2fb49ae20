use Rattle.am_doccols.proofs.meta_writer.MetaWriter.push.Goals as goal

pub push_lent-requires-clause-meta : goal.push_lent-requires-clause-meta
push_lent-requires-clause-meta c = rw (c.as_slice.ensures, c.meta_fields_of.ensures) c.requires.meta

pub push_lent-requires-clause-room : goal.push_lent-requires-clause-room
push_lent-requires-clause-room c = rw c.as_slice.ensures c.requires.room

pub returns-clause-ok : goal.returns-clause-ok
returns-clause-ok c = rw (c.as_slice.ensures, c.meta_fields_of.ensures) at c.push_lent.ensures.ok
