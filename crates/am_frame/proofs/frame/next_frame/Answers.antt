use Rattle.am_frame.proofs.Verdict.{found, only, exact}
use Rattle.am_frame.proofs.frame.next_frame.Goals as goal

pub returns-clause-frame : goal.returns-clause-frame
returns-clause-frame c = found c.args.bytes.now c.judge.result c.judge.ensures

pub returns-clause-only : goal.returns-clause-only
returns-clause-only c = λ chunk rest is e. only c.args.bytes.now c.judge.result chunk rest c.judge.ensures is e

pub returns-clause-fault : goal.returns-clause-fault
returns-clause-fault c = λ fault. exact c.args.bytes.now c.judge.result fault c.judge.ensures
