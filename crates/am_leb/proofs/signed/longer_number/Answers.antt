use Rattle.std.proofs.Common.{◌≡◌, true, false, take, arith, ◌∙◌}
use Rattle.am_leb.specs.Reading.{magnitude}
use Rattle.am_leb.proofs.NineBytes.{first_signed-within, negative_magnitude, nonnegative_magnitude, magnitude_below, below_zero, above_zero}
use Rattle.am_leb.proofs.signed.longer_number.Goals as goal
use Rattle.am_leb.proofs.signed.longer_number.Goals.{then-negative, else-negative}

pub returns-then-negative-2 : goal.returns-then-negative-2
returns-then-negative-2 c =
    let s = c.in-Some.ensures in
    let n = c.if-negative.magnitude in
    let m : n ≡ magnitude true (take c.in-Some.spelling.len c.args.bytes.now) = elim c.if-negative.branch [
      | then-negative w ↦ w.magnitude-is ∙ negative_magnitude c.args.bytes.now c.in-Some.spelling.len c.in-Some.spelling.value c.in-Some.spelling.bound s.1 s.2 s.3
      | else-negative w ↦ absurd (cc)
    ] in
    first_signed-within c.args.bytes.now c.in-Some.spelling.len true n c.in-Some.spelling.bound _ s.1 c.if-negative-2.ensures m s.3 s.0 (omega arith)
    (below_zero n (magnitude_below c.args.bytes.now c.in-Some.spelling.len true n s.0 m))

pub returns-else-negative-2 : goal.returns-else-negative-2
returns-else-negative-2 c =
    let s = c.in-Some.ensures in
    let n = c.if-negative.magnitude in
    let m : n ≡ magnitude false (take c.in-Some.spelling.len c.args.bytes.now) = elim c.if-negative.branch [
      | then-negative w ↦ absurd (cc)
      | else-negative w ↦ w.magnitude-is ∙ nonnegative_magnitude c.args.bytes.now c.in-Some.spelling.len c.in-Some.spelling.value s.2
    ] in
    first_signed-within c.args.bytes.now c.in-Some.spelling.len false n c.in-Some.spelling.bound _ s.1 c.if-negative-2.ensures m s.3 s.0 (omega arith)
    (above_zero n (magnitude_below c.args.bytes.now c.in-Some.spelling.len false n s.0 m))
