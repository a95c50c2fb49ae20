use Rattle.std.proofs.Common.{Some, ap}
use Rattle.am_doccols.proofs.RowsWritten.{begun}
use Rattle.am_doccols.proofs.row_writer.RowWriter.new.Goals as goal

pub invariant_of-result : goal.invariant_of-result
invariant_of-result c = (begun c.in_ok-actors.actors c.new.result c.new-2.result c.new-3.result c.new-4.result (c.new.ensures c.in_ok-actors.actors) (c.new-2.ensures c.in_ok-actors.actors) c.new-3.ensures (c.new-4.ensures c.in_ok-actors.actors)).0

pub returns-clause-rows : goal.returns-clause-rows
returns-clause-rows c = ap Some (begun c.in_ok-actors.actors c.new.result c.new-2.result c.new-3.result c.new-4.result (c.new.ensures c.in_ok-actors.actors) (c.new-2.ensures c.in_ok-actors.actors) c.new-3.ensures (c.new-4.ensures c.in_ok-actors.actors)).1
