use Rattle.am_merge.proofs.Carried.{ids_step}
use Rattle.am_merge.proofs.carry.push_ids.Goals as goal

pub loop-i-preserved : goal.loop-i-preserved
loop-i-preserved c =
    ids_step c.args.ids.now.items c.loop-i.ids.items _ c.id.result c.args.added.now c.loop-i.i c.index-added-i.result c.loop-i-test.true c.index-added-i.is c.id.ensures c.in_ok-push.ensures.items c.loop-i.invariant
