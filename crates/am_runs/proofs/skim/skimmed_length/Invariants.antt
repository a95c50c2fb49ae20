use Rattle.am_runs.proofs.Skimmed.{Skims}
use Rattle.am_runs.proofs.skim.skimmed_length.Given as goal

abbrev pub invariant-loop-i : goal.invariant-loop-i
invariant-loop-i g l = Skims g.K.Number.end_of l.bytes l.count l.left l.start l.i
