use Rattle.std.proofs.Common.{◌-◌}
use Rattle.am_gen.proofs.Keeping.{Kept}
use Rattle.am_gen.proofs.generated.made.Given as goal

abbrev pub invariant-loop-count : goal.invariant-loop-count
invariant-loop-count l = Kept l.n l.count l.round l.author l.before l.here l.changes

abbrev pub decreases-loop-count : goal.decreases-loop-count
decreases-loop-count l = l.n - l.count
