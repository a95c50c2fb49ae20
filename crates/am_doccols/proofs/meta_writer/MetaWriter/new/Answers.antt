use Rattle.std.proofs.Common.{Some, ap}
use Rattle.am_doccols.proofs.MetasWritten.{metas_begun}
use Rattle.am_doccols.proofs.meta_writer.MetaWriter.new.Goals as goal

pub invariant_of-result : goal.invariant_of-result
invariant_of-result c = (metas_begun c.in_ok-actors.actors _ c.new.ensures c.new-2.ensures c.new-3.ensures c.new-4.ensures c.new-5.ensures c.new-6.ensures c.new-7.ensures c.new-8.ensures).0

pub returns-clause-metas : goal.returns-clause-metas
returns-clause-metas c = ap Some (metas_begun c.in_ok-actors.actors _ c.new.ensures c.new-2.ensures c.new-3.ensures c.new-4.ensures c.new-5.ensures c.new-6.ensures c.new-7.ensures c.new-8.ensures).1
