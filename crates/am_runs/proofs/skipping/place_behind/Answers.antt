use Rattle.std.proofs.Common.{arith, sym}
use Rattle.am_runs.proofs.Entries.{never_ends}
use Rattle.am_runs.proofs.skipping.place_behind.Goals as goal

pub returns-in-None-clause-drops : goal.returns-in-None-clause-drops
returns-in-None-clause-drops g c = absurd (never_ends _ c.loop-n.left _ (omega (arith, c.loop-n.invariant.0)) (sym c.in-None.ensures.none) c.loop-n.invariant.1)
