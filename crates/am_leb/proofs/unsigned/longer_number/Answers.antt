use Rattle.std.proofs.Common.{arith}
use Rattle.am_leb.proofs.NineBytes.{first_unsigned-within}
use Rattle.am_leb.proofs.unsigned.longer_number.Goals as goal

pub returns-then-spelling : goal.returns-then-spelling
returns-then-spelling c = let s = c.in-Some.ensures in first_unsigned-within c.args.bytes.now c.in-Some.spelling.len c.in-Some.spelling.value c.in-Some.spelling.bound s.1 s.2 s.3 s.0 (omega arith)
