use Rattle.am_opcols.proofs.cursor.OpCursor.over.Goals as goal

pub returns-clause-err : goal.returns-clause-err
returns-clause-err c = rw c.of.ensures at c.ops.ensures.err
