use Rattle.std.proofs.Common.{arith}
use Rattle.am_runs.proofs.Existing.{Canon_iff}
use Rattle.am_runs.proofs.writer.one_canonical_spelling.Goals as goal

pub returns : goal.returns
returns g c = λ list bytes h l. Canon_iff _ list bytes h (omega arith)
