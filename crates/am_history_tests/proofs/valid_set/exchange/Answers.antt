use Rattle.std.proofs.Common.{arith}
use Rattle.am_history_tests.proofs.ValidSets.{valid_exchanged}
use Rattle.am_history_tests.proofs.valid_set.exchange.Goals as goal

pub returns-then-j-len : goal.returns-then-j-len
returns-then-j-len c =
    valid_exchanged c.args.entries.now.items c.swap.new.self.items c.args.i c.args.j
    (omega (arith, c.if-i-len.true)) (omega (arith, c.if-j-len.true)) c.swap.ensures.items c.requires
