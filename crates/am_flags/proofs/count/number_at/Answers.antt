use Rattle.am_flags.proofs.Counts.{front_of}
use Rattle.am_flags.proofs.count.number_at.Goals as goal

pub returns-in-Ok-clause-some : goal.returns-in-Ok-clause-some
returns-in-Ok-clause-some c = front_of _ _ _ c.in-Ok.ensures.found
