use Rattle.am_runs.proofs.Counted.{unsigned_low}
use Rattle.am_runs.proofs.leb.UnsignedNumber.low.Goals as goal

pub returns-clause-end : goal.returns-clause-end
returns-clause-end c = (unsigned_low c.args.bytes.now c.requires.some c.requires.low).0
