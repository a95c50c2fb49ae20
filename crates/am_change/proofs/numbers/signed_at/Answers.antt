use mir.Val.{to_z, of_z}
use Rattle.std.proofs.Common.{◌≡◌, take, ◌++◌, sym, subst, ◌∙◌, FitsSigned, w64, ℤ}
use Rattle.std.proofs.lemmas.Int.{to_z-of_z}
use Rattle.am_leb.specs.Leb.{leb}
use Rattle.am_change.proofs.FrontLaws.{front_is, behind_is, fields}
use Rattle.am_change.proofs.numbers.signed_at.Goals as goal

pub returns-clause-some : goal.returns-clause-some
returns-clause-some c =
    let found = c.in-Ok.ensures.found in
    let spelled = (c.one_signed_spelling.ensures c.in-Ok.number (take c.in-Ok.size c.args.bytes.now)).0 found.2 in
    let back : to_z w64 (of_z w64 c.in-Ok.number) ≡ c.in-Ok.number = to_z-of_z w64 c.in-Ok.number found.0 in
    let P : ℤ → Type 0 = λ z. (c.args.bytes.now ≡ leb z ++ c.split_at.result.1.now) × FitsSigned w64 z in
    subst P (sym back) (front_is c.args.bytes.now (leb c.in-Ok.number) c.split_at.result.1.now c.in-Ok.size spelled c.split_at.ensures.back, found.0)

pub returns-clause-only : goal.returns-clause-only
returns-clause-only c = λ z rest fits e.
    let same = fields _ _ _ _ (c.in-Ok.ensures.only z rest fits e) in
    let back : to_z w64 (of_z w64 c.in-Ok.number) ≡ c.in-Ok.number = to_z-of_z w64 c.in-Ok.number c.in-Ok.ensures.found.0 in
    (back ∙ same.0, behind_is c.args.bytes.now (leb z) c.split_at.result.1.now rest c.in-Ok.size same.1 c.split_at.ensures.back e)
