use Rattle.std.proofs.Common.{arith}
use Rattle.am_delta.proofs.OneSpelling.{CanonDeltas_iff}
use Rattle.am_delta.proofs.writer.one_canonical_spelling.Goals as goal

pub returns : goal.returns
returns c = λ values bytes a l. CanonDeltas_iff values bytes a (omega arith)
