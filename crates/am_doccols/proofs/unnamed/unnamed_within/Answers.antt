use Rattle.std.proofs.Common.{arith}
use Rattle.am_doccols.proofs.Skipped.{yes_from_not}
use Rattle.am_doccols.proofs.unnamed.unnamed_within.Goals as goal

pub returns-in-None-clause-unnamed : goal.returns-in-None-clause-unnamed
returns-in-None-clause-unnamed c = λ j h. let b = c.requires.between j h in c.in-None.ensures.none _ b.0 b.1

pub returns-then-before-stretch-clause-unnamed : goal.returns-then-before-stretch-clause-unnamed
returns-then-before-stretch-clause-unnamed c = λ j h.
    let e = c.requires.by_one (yes_from_not _ c.if-not-stretch.false) j (omega (arith, c.if-before-stretch.true)) in
    c.in-Some.ensures.some.2 _ (omega (arith, e)) (omega (arith, e))

pub returns-else-before-stretch-clause-unnamed : goal.returns-else-before-stretch-clause-unnamed
returns-else-before-stretch-clause-unnamed c = λ j h.
    let e = c.requires.by_one (yes_from_not _ c.if-not-stretch.false) j h in
    c.in-Some.ensures.some.2 _ (omega (arith, e)) (omega (arith, e, c.if-before-stretch.false))
