use Rattle.std.proofs.Common.{sym, subst}
use Rattle.am_graph.proofs.Numbering.{number_with}
use Rattle.am_fits.specs.Words.{Grows}
use Rattle.am_fits.proofs.texts.number.Goals as goal

pub returns-in_err-number-clause-grows : goal.returns-in_err-number-clause-grows
returns-in_err-number-clause-grows c = subst (Grows c.args.texts.now) (sym c.in_err-number.ensures.err) (λ t n e. e)

pub returns-clause-grows : goal.returns-clause-grows
returns-clause-grows c = subst (Grows c.args.texts.now) (sym c.in_ok-number.ensures.ok) (λ t n e. number_with c.args.texts.now c.args.text.now t n e)
