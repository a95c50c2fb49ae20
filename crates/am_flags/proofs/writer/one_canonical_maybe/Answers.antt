use Rattle.std.proofs.Common.{arith}
use Rattle.am_flags.proofs.Counting.{CanonMaybe_iff}
use Rattle.am_flags.proofs.writer.one_canonical_maybe.Goals as goal

pub returns : goal.returns
returns c = λ flags bytes l. CanonMaybe_iff flags bytes (omega arith)
