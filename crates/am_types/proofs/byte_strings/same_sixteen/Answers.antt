use Rattle.std.proofs.Common.{◌≡◌, ◌∙◌, ◌%◌, ◌^◌, ℕ, Bool, List, length, not, take, take_all, ap, sym, arith}
use Rattle.std.proofs.lemmas.Simd.{length-zip2, mask_l-mod, tops_compared}
use lib.Dec.{eqb}
use lib.Lanes.{mask_l, zip2}
use mir.Syntax.{w8}
use Rattle.am_types.specs.Same.{same_bytes}
use Rattle.am_types.proofs.Marks.{unmarked}
use Rattle.am_types.proofs.byte_strings.same_sixteen.Goals as goal

abbrev differ : ℕ → ℕ → Bool
differ x y = not (eqb x y)

pub returns : goal.returns
returns c =
    let xs = c.args.a.now in
    let ys = c.args.b.now in
    let whole : (zs : List ℕ) → length zs ≡ 16 → take 16 zs ≡ zs = λ zs e. take_all 16 zs (omega arith) in
    let ex = whole xs c.requires.first in
    let ey = whole ys c.requires.second in
    let lx = ap length ex ∙ c.requires.first in
    let ly = ap length ey ∙ c.requires.second in
    let bits = zip2 differ (take 16 xs) (take 16 ys) in
    let few = length-zip2 differ (take 16 xs) (take 16 ys) (lx ∙ sym ly) ∙ lx in
    ap (λ bs. eqb (mask_l bs % 2 ^ 64) 0) (tops_compared w8 differ (take 16 xs) (take 16 ys))
    ∙ ap (λ n. eqb n 0) (mask_l-mod bits 64 (omega arith))
    ∙ unmarked (take 16 xs) (take 16 ys) (lx ∙ sym ly)
    ∙ ap (λ zs. same_bytes zs (take 16 ys)) ex
    ∙ ap (same_bytes xs) ey
