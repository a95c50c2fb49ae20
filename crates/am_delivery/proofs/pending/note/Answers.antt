use Rattle.std.proofs.Common.{rules}
use Rattle.am_delivery.proofs.pending.note.Goals as goal

-- what is written at one hash leaves the others
pub returns-clause-others : goal.returns-clause-others
returns-clause-others c = λ g f. let kept = (c.in_ok-waiting_for.ensures.update.0 c.add.new.list).2 g f in search (rules, kept)
