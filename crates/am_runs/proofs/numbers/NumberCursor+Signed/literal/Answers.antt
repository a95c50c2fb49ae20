use Rattle.std.proofs.Common.{arith}
use Rattle.am_runs.proofs.Neighbours.{numbers_front, none_front}
use Rattle.am_runs.proofs.numbers.NumberCursor+Signed.literal.Goals as goal

pub returns-then-self-gt0 : goal.returns-then-self-gt0
returns-then-self-gt0 c = λ items rest i l e. none_front items c.args.self.now l

pub returns : goal.returns
returns c = λ items rest i l e. numbers_front _ _ _ c.self.inside.value _ items rest c.args.self.now (omega arith) c.self.invariant c.self.view_is i l e
