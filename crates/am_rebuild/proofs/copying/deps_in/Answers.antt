use Rattle.am_rebuild.proofs.Turns.{one_less}
use Rattle.am_rebuild.proofs.copying.deps_in.Goals as goal

pub loop-place-preserved : goal.loop-place-preserved
loop-place-preserved c = one_less c.loop-place.copy c.loop-place.rest c.next.new.self c.args.deps c.push.new.self c.in-Some.place c.in-Some.ensures.next c.in_ok-push.ensures.ok c.loop-place.invariant
