use Rattle.std.proofs.Common.{◌<◌, ℕ, List, sym, subst, arith, ◌∙◌}
use Rattle.std.specs.List.{AllByRecursion}
use Rattle.am_colmeta.specs.Reading.{first_number}
use Rattle.am_colmeta.proofs.Counted.{behind-one, parts-one}
use Rattle.am_doc.proofs.suffix.are_numbers.Goals as goal

pub loop-left-preserved : goal.loop-left-preserved
loop-left-preserved c =
    let P : List ℕ → Type 0 = AllByRecursion (λ i. i < c.args.end) in
    let some : 0 < c.loop-left.left = omega arith in
    let low : c.in-Some.number < c.args.end = omega arith in
    let found = sym c.in-Some.ensures in
    let one = parts-one first_number c.loop-left.left c.loop-left.rest.now c.in-Some.number c.in-Some.more.now some found in (
      sym (behind-one first_number c.loop-left.left c.loop-left.rest.now c.in-Some.number c.in-Some.more.now some found) ∙ c.loop-left.invariant.0,
      λ h. c.loop-left.invariant.1 (subst P (sym one) (low, h)),
      λ h. (subst P one (c.loop-left.invariant.2 h)).1,
    )
