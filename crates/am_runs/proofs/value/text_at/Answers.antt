use Rattle.std.proofs.Common.{arith, ap, ◌∙◌, ◌≡◌, ◌-◌, ◌≤◌, drop, length, take}
use Rattle.std.proofs.lemmas.List.{length-drop, take_all}
use Rattle.am_runs.proofs.LiteralTexts.{text_of-front}
use Rattle.am_runs.proofs.value.text_at.Goals as goal

pub returns-in-Some-clause-value : goal.returns-in-Some-clause-value
returns-in-Some-clause-value c =
    let x = c.args.bytes.now in
    let n = c.in-Ok.n in
    let len = c.in-Ok.len in
    let whole : take (length x - len) (drop len x) ≡ drop len x = take_all (length x - len) (drop len x) (omega (arith, length-drop len x)) in
    let within : n ≤ length x - len = omega (arith, c.if-n-rest.false, length-drop len x, ap length whole) in
    c.in-Some.ensures.some.0 ∙ ap (take n) whole ∙ text_of-front x n len c.in-Ok.ensures.exact within
