use Rattle.std.proofs.Common.{rules}
use Rattle.am_values.proofs.Collected.{room, room_for_one, pushed}
use Rattle.am_values.proofs.writer.ValueWriter.push.Goals as goal

pub put_alike-requires : goal.put_alike-requires
put_alike-requires c = room _ _ _ _ 1 c.in_ok-begin.ensures.ok.0 c.self.invariant c.self.view_is (room_for_one _ c.requires.room)

pub invariant_of-self-2 : goal.invariant_of-self-2
invariant_of-self-2 c = (pushed _ _ _ c.self.inside.raw.items _ _ _ c.in_ok-begin.ensures.ok.0 c.self.invariant c.self.view_is c.requires.good (search rules) (search rules)).0

pub returns-clause-ok : goal.returns-clause-ok
returns-clause-ok c = (pushed _ _ _ c.self.inside.raw.items _ _ _ c.in_ok-begin.ensures.ok.0 c.self.invariant c.self.view_is c.requires.good (search rules) (search rules)).1
