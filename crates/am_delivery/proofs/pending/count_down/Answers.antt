use Rattle.std.proofs.Common.{arith}
use Rattle.std.proofs.lemmas.Grind.{common_steps}
use Rattle.am_delivery.proofs.Tables.{told_apart}
use Rattle.am_delivery.proofs.pending.count_down.Goals as goal

pub returns-clause-others : goal.returns-clause-others
returns-clause-others c = λ g f. let apart = told_apart c.args.h.now g f in grind (arith, common_steps)
