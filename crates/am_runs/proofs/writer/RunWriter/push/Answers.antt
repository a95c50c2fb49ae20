use Rattle.std.proofs.Common.{rules}
use Rattle.am_runs.proofs.Finishing.{room_left, next_writing}
use Rattle.am_runs.proofs.writer.RunWriter.push.Goals as goal

pub put-requires-clause-room : goal.put-requires-clause-room
put-requires-clause-room g c = (room_left _ _ _ _ _ _ _ _ _ c.if-self.false c.self.invariant c.self.view_is c.requires.room).0

pub overflow_add-self : goal.overflow_add-self
overflow_add-self g c = let r = (room_left _ _ _ _ _ _ _ _ _ c.if-self.false c.self.invariant c.self.view_is c.requires.room).1 in search rules

pub invariant_of-self-2 : goal.invariant_of-self-2
invariant_of-self-2 g c = (next_writing _ g.met.K.Item.reads _ _ _ _ _ _ _ _ _ _ _ _ _ _ c.if-self.false c.self.invariant c.self.view_is c.requires.room c.in_ok-put.ensures).0

pub returns-clause-ok : goal.returns-clause-ok
returns-clause-ok g c = (next_writing _ g.met.K.Item.reads _ _ _ _ _ _ _ _ _ _ _ _ _ _ c.if-self.false c.self.invariant c.self.view_is c.requires.room c.in_ok-put.ensures).1
