use Rattle.std.proofs.Common.{◌<◌, ◌^◌, arith, rules}
use Rattle.am_leb.proofs.Laws.{length_uleb-le, length_uleb-one, length_uleb-more}
use Rattle.am_leb.proofs.unsigned.unsigned_len.Goals as goal

pub overflow_add-len : goal.overflow_add-len
overflow_add-len c = let small : c.args.n < 2 ^ 64 = omega arith in let b = length_uleb-le c.args.n small in search rules

pub loop-rest-preserved : goal.loop-rest-preserved
loop-rest-preserved c = omega (arith, length_uleb-more c.loop-rest.rest (omega arith))

pub returns : goal.returns
returns c = omega (arith, length_uleb-one c.loop-rest.rest (omega arith))
