use Rattle.std.proofs.Common.{arith}
use Rattle.am_values.proofs.Short.{signed_short}
use Rattle.am_values.proofs.number.signed_in.Goals as goal

pub returns-clause-short : goal.returns-clause-short
returns-clause-short c = signed_short c.args.raw.now _ _ (λ i. omega (arith, c.type_inv.raw i)) c.read_i.ensures.exact c.if_whole.ensures.whole
