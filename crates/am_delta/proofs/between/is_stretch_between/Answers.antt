use Rattle.std.proofs.Common.{◌↔◌, FitsSigned, w64, Some, refl, sym, subst, rules}
use Rattle.std.specs.Bool.{IsTrue}
use Rattle.am_delta.specs.Deltas.{AllBetween, stretch}
use Rattle.am_delta.proofs.Sums.{as_given, all_null}
use Rattle.am_delta.proofs.between.is_stretch_between.Goals as goal

pub returns-in-None : goal.returns-in-None
returns-in-None c = (
  λ e. subst (λ first. AllBetween c.args.low c.args.high (stretch first c.args.difference c.args.count)) (sym c.in-None.is) (all_null c.args.low c.args.high c.args.count),
  λ all. refl,
)

pub returns-in-Some : goal.returns-in-Some
returns-in-Some c =
    let fits : FitsSigned w64 c.in-Some.first = search rules in
    subst (λ first. IsTrue c.is_between_from.result ↔ AllBetween c.args.low c.args.high (stretch first c.args.difference c.args.count)) (sym c.in-Some.is)
    (as_given (λ v d l h. IsTrue c.is_between_from.result ↔ AllBetween l h (stretch (Some v) c.args.difference c.args.count)) _ _ _ _ fits fits c.ranges.low c.ranges.high c.is_between_from.ensures)
