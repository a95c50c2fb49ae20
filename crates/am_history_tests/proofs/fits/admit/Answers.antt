use Rattle.std.proofs.Common.{[], ◌∙◌, ap}
use Rattle.am_history_tests.specs.FitSamples.{sample}
use Rattle.am_history_tests.proofs.FitSets.{may_admit}
use Rattle.am_history_tests.proofs.fits.admit.Goals as goal

pub admit-requires : goal.admit-requires
admit-requires c =
    may_admit c.args.index.now c.in_ok-change.change c.requires
    (c.in_ok-change.ensures ∙ ap (λ deps. sample 1 1 deps c.new-2.result) c.new.ensures ∙ ap (λ preds. sample 1 1 [] preds) c.new-2.ensures)
