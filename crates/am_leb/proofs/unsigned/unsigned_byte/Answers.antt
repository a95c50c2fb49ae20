use Rattle.am_leb.proofs.Laws.{uleb-one}
use Rattle.am_leb.proofs.unsigned.unsigned_byte.Goals as goal

pub returns-then-n-lt128-clause-byte : goal.returns-then-n-lt128-clause-byte
returns-then-n-lt128-clause-byte c = uleb-one c.args.n c.if-n-lt128.true
