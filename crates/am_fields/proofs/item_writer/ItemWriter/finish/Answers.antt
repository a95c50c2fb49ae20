use Rattle.am_fields.proofs.Written.{finished_ok}
use Rattle.am_fields.proofs.item_writer.ItemWriter.finish.Goals as goal

pub returns-clause-ok : goal.returns-clause-ok
returns-clause-ok g c = finished_ok g.K.Item.end_of g.K.Written.code g.K.Written.value_of c.self.inside.failed c.self.inside.runs c.args.self c.finish.result c.if-self.false c.self.invariant c.self.view_is c.requires c.finish.ensures.ok
