use Rattle.std.proofs.Common.{sym, ap, ◌∙◌, w64, subst}
use Rattle.std.specs.Prelude.{replicate}
use Rattle.std.proofs.lemmas.Int.{to_z-of_z}
use Rattle.am_delta.specs.Deltas.{AllBetween, sums_from, sum_after}
use Rattle.am_delta.proofs.Sums.{nulls_between}
use Rattle.am_delta.proofs.between.all_between.Goals as goal

pub returns-in-None-clause-some : goal.returns-in-None-clause-some
returns-in-None-clause-some c = (
  to_z-of_z w64 c.args.value c.ranges.value ∙ ap (λ x. sum_after c.args.value x c.args.k) (sym c.in-None.is),
  subst (λ x. AllBetween c.args.low c.args.high (sums_from c.args.value (replicate c.args.k x))) (sym c.in-None.is) (nulls_between c.args.low c.args.high c.args.value c.args.k),
)
