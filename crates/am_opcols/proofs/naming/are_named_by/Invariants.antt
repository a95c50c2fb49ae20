use Rattle.std.proofs.Common.{length}
use Rattle.am_opcols.specs.EachColumn.{AreNamed}
use Rattle.am_opcols.proofs.naming.are_named_by.Given as goal

abbrev pub invariant-loop-actor : goal.invariant-loop-actor
invariant-loop-actor l = (AreNamed l.rest l.ops → AreNamed l.actors l.ops) × (AreNamed l.actors l.ops → AreNamed l.rest l.ops)

abbrev pub decreases-loop-actor : goal.decreases-loop-actor
decreases-loop-actor l = length l.rest
