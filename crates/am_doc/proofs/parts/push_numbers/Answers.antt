use Rattle.std.proofs.Common.{get_or, refl}
use Rattle.am_leb.specs.Leb.{uleb}
use Rattle.am_doc.proofs.Turns.{given_more, given_all}
use Rattle.am_doc.proofs.parts.push_numbers.Goals as goal

pub loop-number-preserved : goal.loop-number-preserved
loop-number-preserved c =
    given_more uleb c.args.out.now.items c.args.numbers.now c.loop-number.number-index (get_or c.args.numbers.now c.loop-number.number-index 0) 0 c.loop-number.out.items c.push_u.new.out.items c.loop-number-test.true refl c.loop-number.invariant
    c.in_ok-push_u.ensures.ok

pub returns : goal.returns
returns c = given_all uleb c.args.out.now.items c.args.numbers.now c.loop-number.number-index c.loop-number.out.items c.loop-number-test.false c.loop-number.invariant
