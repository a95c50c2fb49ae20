use Rattle.std.proofs.Common.{arith}
use Rattle.am_history_tests.proofs.FitSets.{sample_may_join, may_join}
use Rattle.am_history_tests.proofs.fits.judged.Goals as goal

pub fits-requires : goal.fits-requires
fits-requires c =
    may_join c.args.graph.now c.args.index.now c.in_ok-change.change c.args.seq c.args.start c.args.pred
    c.requires.graph c.requires.index c.in_ok-change.ensures
    (sample_may_join c.args.seq c.args.start c.args.pred (omega arith) (omega arith) (omega arith) (omega arith) (omega arith) (omega arith))
