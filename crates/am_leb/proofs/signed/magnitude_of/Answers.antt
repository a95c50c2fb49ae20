use Rattle.std.proofs.Common.{length, drop, arith, rules, length-drop}
use Rattle.std.proofs.Math.Nat.{pow-le-pow_right}
use Rattle.am_leb.proofs.SignedLaws.{magnitude-bound}
use Rattle.am_leb.proofs.signed.magnitude_of.Goals as goal

pub overflow_mul-value : goal.overflow_mul-value
overflow_mul-value c =
    let rest = drop c.loop-i.i c.args.spelling.now in
    let below = magnitude-bound c.args.negative rest in
    let most = pow-le-pow_right {n = 128} (omega arith) {i = length rest} {j = 10} (omega (arith, length-drop c.loop-i.i c.args.spelling.now)) in
    search rules

pub overflow_add-value : goal.overflow_add-value
overflow_add-value c =
    let rest = drop c.loop-i.i c.args.spelling.now in
    let below = magnitude-bound c.args.negative rest in
    let most = pow-le-pow_right {n = 128} (omega arith) {i = length rest} {j = 10} (omega (arith, length-drop c.loop-i.i c.args.spelling.now)) in
    search rules
