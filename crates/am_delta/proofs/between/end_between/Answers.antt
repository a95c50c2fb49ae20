use Rattle.std.proofs.Common.{arith, rules, ◌∙◌, ◌≡◌, FitsSigned, w64, pos, ◌+ℤ◌, ◌*ℤ◌, ◌≤ℤ◌}
use Rattle.std.specs.Int.{w128}
use Rattle.std.proofs.lemmas.Int.{ints, to_z-of_z}
use Rattle.am_delta.proofs.between.end_between.Goals as goal

pub returns-else-end-from-2-clause-some : goal.returns-else-end-from-2-clause-some
returns-else-end-from-2-clause-some c =
    let fits : FitsSigned w64 c.narrow.result = search rules in
    let wide : FitsSigned w128 c.in-Some-checked_add.end = search rules in
    let e = to_z-of_z w64 c.narrow.result fits in
    let n : c.narrow.result ≡ c.in-Some-checked_add.end = c.narrow.ensures ∙ to_z-of_z w128 c.in-Some-checked_add.end wide in
    let sum : c.in-Some-checked_add.end ≡ c.args.value +ℤ pos c.args.k *ℤ c.args.difference = search rules in
    let low : c.args.low ≤ℤ c.in-Some-checked_add.end = search rules in
    let high : c.in-Some-checked_add.end ≤ℤ c.args.high = search rules in
    (e ∙ n ∙ sum, omega (arith, ints, e, n, low), omega (arith, ints, e, n, high))
