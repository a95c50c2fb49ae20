use Rattle.std.proofs.Common.{arith, [], ◌∷◌, ◌++◌}
use Rattle.am_runs.proofs.Neighbours.{more_apart}
use Rattle.am_runs.proofs.apart.found_apart.Goals as goal

pub loop-left-preserved : goal.loop-left-preserved
loop-left-preserved g c =
    let inv = c.loop-left.invariant in
    let next = c.in-Some-next_apart.ensures in
    record {
      few = omega (arith, inv.few);
      are = (inv.are.0 ++ c.loop-left.found.last.now ∷ [], more_apart _ _ _ _ _ _ _ _ _ _ inv.are.1 next.0 next.1 next.2);
    }
