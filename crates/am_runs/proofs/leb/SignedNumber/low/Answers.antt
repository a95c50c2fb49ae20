use Rattle.am_runs.proofs.Counted.{signed_low}
use Rattle.am_runs.proofs.leb.SignedNumber.low.Goals as goal

pub returns-clause-end : goal.returns-clause-end
returns-clause-end c = (signed_low c.args.bytes.now c.requires.some c.requires.low).0
