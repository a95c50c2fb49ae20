use Rattle.am_doccols.proofs.Gathering.{gathers_start}
use Rattle.am_doccols.proofs.row_gatherer.RowGatherer.new.Goals as goal

pub invariant_of-result : goal.invariant_of-result
invariant_of-result c = (gathers_start c.in_ok-writer.writer.0 c.in_ok-writer.writer.1 _ _ c.in_ok-writer.ensures.rows c.new-2.ensures.items c.new-3.ensures.items).0

pub returns-clause-rows : goal.returns-clause-rows
returns-clause-rows c = (gathers_start c.in_ok-writer.writer.0 c.in_ok-writer.writer.1 _ _ c.in_ok-writer.ensures.rows c.new-2.ensures.items c.new-3.ensures.items).1
