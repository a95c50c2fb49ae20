use Rattle.std.proofs.Common.{arith}
use Rattle.am_flags.proofs.Counting.{CanonFlags_iff}
use Rattle.am_flags.proofs.writer.one_canonical_spelling.Goals as goal

pub returns : goal.returns
returns c = λ flags bytes l. CanonFlags_iff flags bytes (omega arith)
