use Rattle.std.proofs.Common.{refl}
use Rattle.am_runs.proofs.Arms.{literal_more_at}
use Rattle.am_runs.proofs.pending.extend_literal.Goals as goal

pub returns : goal.returns
returns g c = λ list h. literal_more_at _ _ _ _ _ _ _ _ _ _ list c.requires.kind c.requires.other c.requires.item c.in_ok-push.ensures.front refl c.in_ok-push.ensures.last h
