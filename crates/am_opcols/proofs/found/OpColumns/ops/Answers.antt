use Rattle.am_opcols.proofs.found.OpColumns.ops.Goals as goal

pub returns-in-Err-clause-err : goal.returns-in-Err-clause-err
returns-in-Err-clause-err c = rw c.of_change-actors.ensures at c.in-Err.ensures.err
