use Rattle.std.proofs.Common.{take}
use Rattle.am_leb.specs.Leb.{uleb}
use Rattle.am_change.proofs.FrontLaws.{front_is, behind_is, fields}
use Rattle.am_change.proofs.numbers.number_at.Goals as goal

pub returns-clause-some : goal.returns-clause-some
returns-clause-some c =
    let found = c.in-Ok.ensures.found in
    let spelled = (c.one_spelling.ensures c.in-Ok.number (take c.in-Ok.size c.args.bytes.now)).0 found.2 in
    (front_is c.args.bytes.now (uleb c.in-Ok.number) c.split_at.result.1.now c.in-Ok.size spelled c.split_at.ensures.back, found.0)

pub returns-clause-only : goal.returns-clause-only
returns-clause-only c = λ n rest less e.
    let same = fields _ _ _ _ (c.in-Ok.ensures.only n rest less e) in
    (same.0, behind_is c.args.bytes.now (uleb n) c.split_at.result.1.now rest c.in-Ok.size same.1 c.split_at.ensures.back e)
