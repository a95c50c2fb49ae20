use Rattle.am_merge.proofs.Carried.{clamped}
use Rattle.am_merge.proofs.carry.added_at.Goals as goal

pub returns : goal.returns
returns c =
    clamped c.args.named.now c.args.stop.now.first c.args.stop.now.last c.at_most-first.result c.at_most-last.result
    c.at_most-last.ensures.within c.at_most-last.ensures.beyond c.at_most-first.ensures.within c.at_most-first.ensures.beyond
