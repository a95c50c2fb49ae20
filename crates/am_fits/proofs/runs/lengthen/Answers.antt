use Rattle.std.proofs.Common.{◌≡◌, ◌-◌, get_or, subst, sym, ap, ◌∙◌, arith}
use Rattle.am_fits.specs.declared.runs.Run.{Run}
use Rattle.am_fits.specs.Runs.{GoesOn}
use Rattle.am_fits.proofs.runs.lengthen.Goals as goal

pub returns-in_default-clause-none : goal.returns-in_default-clause-none
returns-in_default-clause-none c e new is few =
    let old = c.index.result.now in
    let last = is.last in
    let at : is.at ≡ c.len-count.result - 1 = omega (arith, c.len-count.ensures) in
    let same : get_or c.args.runs.now.items is.at old ≡ old = ap (λ k. get_or c.args.runs.now.items k old) at ∙ sym c.index.ensures in
    c.in_default.ensures.none is.longer (subst (λ (l : Run). GoesOn l c.args.run is.longer) same (is.goes_on old)) few
