use Rattle.std.proofs.Common.{arith, sym, subst, ◌∙◌}
use Rattle.am_leb.proofs.SignedAnswering.{Found, ShortExactly, LongExactly, LargeExactly, found, short_exactly, long_exactly, large_exactly, only}
use Rattle.am_leb.proofs.signed.read_i.Goals as goal

pub returns-clause-found : goal.returns-clause-found
returns-clause-found c = subst (Found c.args.bytes.now) (sym c.first_number.ensures) (found _ (λ i. omega (arith, c.type_inv.bytes i)))

pub returns-clause-only : goal.returns-clause-only
returns-clause-only c = λ n rest h e. c.first_number.ensures ∙ only _ n rest h e

pub returns-clause-short : goal.returns-clause-short
returns-clause-short c = subst (ShortExactly c.args.bytes.now) (sym c.first_number.ensures) (short_exactly _)

pub returns-clause-long : goal.returns-clause-long
returns-clause-long c = subst (LongExactly c.args.bytes.now) (sym c.first_number.ensures) (long_exactly _ (λ i. omega (arith, c.type_inv.bytes i)))

pub returns-clause-large : goal.returns-clause-large
returns-clause-large c = subst (LargeExactly c.args.bytes.now) (sym c.first_number.ensures) (large_exactly _ (λ i. omega (arith, c.type_inv.bytes i)))
