use Rattle.std.proofs.Common.{arith}
use Rattle.std.proofs.lemmas.Grind.{common_steps}
use Rattle.am_leb.proofs.OneByte.{first_and_rest}
use Rattle.am_leb.proofs.spelling.low_byte.Goals as goal

pub returns-then-first-lt128 : goal.returns-then-first-lt128
returns-then-first-lt128 c = (omega arith, first_and_rest _ (grind (arith, common_steps)))
