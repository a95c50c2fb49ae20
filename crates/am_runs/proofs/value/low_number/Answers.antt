use mir.Val.{to_z, of_z}
use Rattle.std.proofs.Common.{w64, ℕ, ◌<◌, ◌≤◌, ◌≡◌, ◌-◌, ◌-ℤ◌, nat_lt, true, false, cond, pos, negsuc, arith, ap, sym, ◌∙◌}
use Rattle.std.proofs.lemmas.Bool.Decides.{nat_tests}
use Rattle.std.proofs.lemmas.Int.{ints}
use Rattle.am_leb.specs.Reading.{low_value}
use Rattle.am_runs.proofs.value.low_number.Goals as goal

below : (b : ℕ) → b < 64 → pos b ≡ low_value b
below b h = let t : nat_lt b 64 ≡ true = grind (arith, nat_tests) in ap (λ c. cond c (pos b) (negsuc (127 - b))) (sym t)

kept : (b : ℕ) → b < 128 → to_z w64 (of_z w64 (pos b)) ≡ pos b
kept b h = omega (arith, ints)

above : (b : ℕ) → 64 ≤ b → b < 128 → to_z w64 (of_z w64 (pos b -ℤ pos 128)) ≡ low_value b
above b g h =
    let t : nat_lt b 64 ≡ false = grind (arith, nat_tests) in
    let e : to_z w64 (of_z w64 (pos b -ℤ pos 128)) ≡ negsuc (127 - b) = omega (arith, ints) in
    e ∙ ap (λ c. cond c (pos b) (negsuc (127 - b))) (sym t)

pub returns-then-low-lt64 : goal.returns-then-low-lt64
returns-then-low-lt64 c = ap (λ z. to_z w64 (of_z w64 z)) c.from.ensures ∙ kept c.args.low (omega arith) ∙ below c.args.low (omega arith)

pub returns-else-low-lt64 : goal.returns-else-low-lt64
returns-else-low-lt64 c =
    ap (λ z. to_z w64 (of_z w64 (to_z w64 (of_z w64 z) -ℤ pos 128))) c.from-else-low-lt64.ensures
    ∙ ap (λ z. to_z w64 (of_z w64 (z -ℤ pos 128))) (kept c.args.low (omega arith)) ∙ above c.args.low (omega arith) (omega arith)
