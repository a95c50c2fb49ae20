use Rattle.std.proofs.Common.{arith}
use Rattle.am_fits.proofs.RunLaws.{none_below}
use Rattle.am_fits.proofs.runs.place_of.Goals as goal

pub returns-then-before-eq0-clause-none : goal.returns-then-before-eq0-clause-none
returns-then-before-eq0-clause-none c = none_below c.args.runs.now c.args.counter (λ k d l. c.upto-before.ensures.above k d (omega (arith, c.if-before-eq0.true)) l)
