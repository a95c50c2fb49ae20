use Rattle.std.proofs.Common.{◌≡◌, ◌≤◌, Some, ap, ◌∙◌, arith, replicate}
use Rattle.std.proofs.lemmas.Bool.Decides.{nat_tests}
use Rattle.std.proofs.lemmas.Grind.{common_steps}
use Rattle.am_values.proofs.CutLetters.{take_fewer}
use Rattle.am_values.proofs.letters.letters_ahead.Goals as goal

pub returns-in-Some-Some-eq22-default-clause-letters : goal.returns-in-Some-Some-eq22-default-clause-letters
returns-in-Some-Some-eq22-default-clause-letters c =
    let arm = c.in-Some-Some-eq22-default in
    let few : c.min.result ≤ arm.count = grind (arith, common_steps) in
    let number : arm.field-0-0-0 ≡ 22 = grind (arith, nat_tests) in
    take_fewer c.min.result arm.count _ c.args.numbers.now few arm.ensures.like.2 ∙ ap (λ n. replicate c.min.result n) (arm.field-0-0-is ∙ ap Some number)
