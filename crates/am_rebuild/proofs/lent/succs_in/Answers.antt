use Rattle.am_types.specs.Views.{id_of}
use Rattle.am_rebuild.proofs.Turns.{one_less_seen}
use Rattle.am_rebuild.proofs.lent.succs_in.Goals as goal

pub loop-id-preserved : goal.loop-id-preserved
loop-id-preserved c =
    one_less_seen id_of c.loop-id.lent.items c.push-in-Some-next.new.self.items c.loop-id.succs c.next-in-loop-id.new.self c.args.succs.now c.in-Some-next.id c.in-Some-next.ensures.next c.in_ok-push-2.ensures.items c.loop-id.invariant
