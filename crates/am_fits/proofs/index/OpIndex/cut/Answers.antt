use Rattle.std.proofs.Common.{take, refl, ap, ◌∙◌}
use Rattle.am_fits.specs.Indexes.{Indexed}
use Rattle.am_fits.specs.Tables.{facts_in}
use Rattle.am_fits.proofs.Cut.{kept_index}
use Rattle.am_fits.proofs.index.OpIndex.cut.Goals as goal

pub returns : goal.returns
returns c =
    let new : Indexed = record { facts = facts_in c.cut.new.self; totals = c.args.totals } in
    kept_index c.args.self.now new c.args.totals (c.cut.ensures.facts ∙ ap (λ (x : Indexed). take c.args.totals.operations x.facts) c.self.view_is) refl
