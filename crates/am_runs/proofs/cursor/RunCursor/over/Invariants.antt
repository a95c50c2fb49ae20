use Rattle.std.proofs.Common.{◌≤◌, length}
use Rattle.am_runs.proofs.RunsRead.{ReadSoFar}
use Rattle.am_runs.proofs.cursor.RunCursor.over.Given as goal

abbrev pub invariant-loop-rest : goal.invariant-loop-rest
invariant-loop-rest g l = ReadSoFar g.K.Item.end_of l.bytes l.rest l.total × (l.total ≤ l.most)

abbrev pub decreases-loop-rest : goal.decreases-loop-rest
decreases-loop-rest g l = length l.rest
