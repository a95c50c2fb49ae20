use Rattle.std.proofs.Common.{arith}
use Rattle.std.proofs.lemmas.Grind.{common_steps}
use Rattle.am_flags.proofs.Writing.{ended_full, ended_empty}
use Rattle.am_flags.proofs.writer.ended.Goals as goal

pub returns-then-count-eq0 : goal.returns-then-count-eq0
returns-then-count-eq0 c = λ flag list h. ended_empty c.args.done.items flag c.args.count list (grind (arith, common_steps)) h

pub returns : goal.returns
returns c = λ flag list h. ended_full c.args.done.items _ flag c.args.count list (grind (arith, common_steps)) (omega arith) c.in_ok-push_u.ensures.ok h
