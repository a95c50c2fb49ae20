use Rattle.am_values.proofs.Short.{unsigned_short}
use Rattle.am_values.proofs.number.unsigned_in.Goals as goal

pub returns-clause-short : goal.returns-clause-short
returns-clause-short c = unsigned_short c.args.raw.now _ _ c.read_u.ensures.found c.if_whole.ensures.whole
