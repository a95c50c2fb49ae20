use Rattle.std.proofs.Common.{◌^◌}
use Rattle.am_fields.proofs.Written.{room_left, pushed}
use Rattle.am_fields.proofs.item_writer.ItemWriter.push_alike.Goals as goal

pub put-requires : goal.put-requires
put-requires g c = room_left g.K.Written.value_of c.self.inside.failed c.self.inside.runs c.args.self.now c.if-self.false c.self.view_is c.args.count (2 ^ 32) c.requires

pub invariant_of-self-2 : goal.invariant_of-self-2
invariant_of-self-2 g c = (pushed g.K.Item.end_of g.K.Written.code g.K.Written.value_of c.self.inside.failed c.self.inside.runs _ c.args.self.now (g.K.Lent.shown c.args.value) c.args.count c.if-self.false c.self.invariant c.self.view_is c.in_ok-put.ensures.told c.in_ok-put.ensures.ok).0

pub returns-clause-ok : goal.returns-clause-ok
returns-clause-ok g c = (pushed g.K.Item.end_of g.K.Written.code g.K.Written.value_of c.self.inside.failed c.self.inside.runs _ c.args.self.now (g.K.Lent.shown c.args.value) c.args.count c.if-self.false c.self.invariant c.self.view_is c.in_ok-put.ensures.told c.in_ok-put.ensures.ok).1
