use Rattle.std.proofs.Common.{arith, rules}
use Rattle.am_colmeta.proofs.Collecting.{pushed}
use Rattle.am_colmeta.proofs.writer.ColumnWriter.push.Goals as goal

pub invariant_of-self-2 : goal.invariant_of-self-2
invariant_of-self-2 c = (pushed _ c.self.inside.columns.items c.push.new.self.items c.self.inside.body.items c.extend_from_slice.new.self.items c.args.bytes.now c.args.spec c.args.self.now c.if-self.false c.self.view_is c.self.invariant c.requires (omega arith) (omega arith) (search rules) (search rules)).0

pub returns-clause-ok : goal.returns-clause-ok
returns-clause-ok c = (pushed _ c.self.inside.columns.items c.push.new.self.items c.self.inside.body.items c.extend_from_slice.new.self.items c.args.bytes.now c.args.spec c.args.self.now c.if-self.false c.self.view_is c.self.invariant c.requires (omega arith) (omega arith) (search rules) (search rules)).1
