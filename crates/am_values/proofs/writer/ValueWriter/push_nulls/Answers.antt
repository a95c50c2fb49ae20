use Rattle.am_values.proofs.Collected.{room, pushed_nulls}
use Rattle.am_values.proofs.writer.ValueWriter.push_nulls.Goals as goal

pub put_alike-requires : goal.put_alike-requires
put_alike-requires c = room _ _ _ _ c.args.count c.in_ok-begin.ensures.ok.0 c.self.invariant c.self.view_is c.requires.room

pub invariant_of-self-2 : goal.invariant_of-self-2
invariant_of-self-2 c = (pushed_nulls _ _ _ c.self.inside.raw.items _ c.args.count c.in_ok-begin.ensures.ok.0 c.self.invariant c.self.view_is c.in_ok-put_alike.ensures.ok).0

pub returns-clause-ok : goal.returns-clause-ok
returns-clause-ok c = (pushed_nulls _ _ _ c.self.inside.raw.items _ c.args.count c.in_ok-begin.ensures.ok.0 c.self.invariant c.self.view_is c.in_ok-put_alike.ensures.ok).1
