use Rattle.std.proofs.Common.{arith}
use Rattle.am_flags.proofs.Writing.{put_same, put_turn, differ}
use Rattle.am_flags.proofs.writer.put.Goals as goal

pub returns-then-is_same-clause-ok : goal.returns-then-is_same-clause-ok
returns-then-is_same-clause-ok c = λ list h. put_same c.args.done.now.items c.args.flag c.args.next c.args.count c.args.more list (c.is_same.ensures.0 c.if-is_same.true) c.requires.some h

pub returns-clause-ok : goal.returns-clause-ok
returns-clause-ok c = λ list h. put_turn c.args.done.now.items _ c.args.flag c.args.next c.args.count c.args.more list (differ _ _ _ c.is_same.ensures c.if-is_same.false) c.requires.some (omega arith) c.in_ok-push_u.ensures.ok h
