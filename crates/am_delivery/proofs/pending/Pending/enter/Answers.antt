use Rattle.std.proofs.Common.{unwrap_or, ap}
use Rattle.am_delivery.proofs.Tables.{told_apart}
use Rattle.am_delivery.proofs.pending.Pending.enter.Goals as goal

pub returns-in_ok-insert-clause-others : goal.returns-in_ok-insert-clause-others
returns-in_ok-insert-clause-others c = λ g f. ap (λ o. unwrap_or o 0) (c.remove.ensures.updates.2 g (told_apart c.args.h g f))

pub returns-in_ok-insert-2-clause-others : goal.returns-in_ok-insert-2-clause-others
returns-in_ok-insert-2-clause-others c = λ g f. ap (λ o. unwrap_or o 0) (c.in_ok-insert-2.ensures.updates.2 g (told_apart c.args.h g f))
