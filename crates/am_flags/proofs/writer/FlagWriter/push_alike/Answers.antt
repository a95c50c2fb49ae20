use Rattle.std.proofs.Common.{arith}
use Rattle.std.proofs.lemmas.Grind.{common_steps}
use Rattle.am_flags.proofs.Writing.{next_writing, room_left, none_more}
use Rattle.am_flags.proofs.writer.FlagWriter.push_alike.Goals as goal

pub returns-then-count-eq0-clause-ok : goal.returns-then-count-eq0-clause-ok
returns-then-count-eq0-clause-ok c = none_more c.args.self.now c.args.flag c.args.count (grind (arith, common_steps))

pub put-requires-clause-room : goal.put-requires-clause-room
put-requires-clause-room c = room_left _ _ _ _ _ c.args.count c.if-self.false c.self.invariant c.self.view_is c.requires.room

pub invariant_of-self-2 : goal.invariant_of-self-2
invariant_of-self-2 c = (next_writing _ _ _ _ _ _ _ c.args.count _ c.if-self.false c.self.invariant c.self.view_is c.requires.room c.in_ok-count.ensures.ok c.in_ok-count.ensures.size).0

pub returns-clause-ok : goal.returns-clause-ok
returns-clause-ok c = (next_writing _ _ _ _ _ _ _ c.args.count _ c.if-self.false c.self.invariant c.self.view_is c.requires.room c.in_ok-count.ensures.ok c.in_ok-count.ensures.size).1
