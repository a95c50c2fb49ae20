use Rattle.std.proofs.Common.{◌≡◌, All, None, sym, subst}
use Rattle.am_types.specs.Operations.{operations}
use Rattle.am_types.specs.Totals.{AreWithinLimits}
use Rattle.am_fits.specs.Facts.{fact_with}
use Rattle.am_fits.proofs.Fresh.{ids_new, is_fine, end_low, totals_low}
use Rattle.am_fits.proofs.Sums.{change_within}
use Rattle.am_fits.proofs.index.OpIndex.admit.Goals as goal

pub with-totals-requires-clause-set : goal.with-totals-requires-clause-set
with-totals-requires-clause-set g c = subst (λ x. AreWithinLimits x.totals) (sym c.self.view_is) (totals_low c.args.self.now (g.C.ReadChange.change c.args.change.now) c.requires)

pub with-totals-requires-clause-change : goal.with-totals-requires-clause-change
with-totals-requires-clause-change g c = change_within (g.C.ReadChange.change c.args.change.now) (is_fine c.args.self.now (g.C.ReadChange.change c.args.change.now) c.requires)

pub add-requires-clause-new : goal.add-requires-clause-new
add-requires-clause-new g c = subst (λ i. All (λ x. fact_with i.facts x.id ≡ None) (operations (g.C.ReadChange.change c.args.change.now))) (sym c.self.view_is) (ids_new c.args.self.now (g.C.ReadChange.change c.args.change.now) c.requires)

pub add-requires-clause-end : goal.add-requires-clause-end
add-requires-clause-end g c = end_low c.args.self.now (g.C.ReadChange.change c.args.change.now) c.requires
