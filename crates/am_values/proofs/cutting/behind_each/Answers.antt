use Rattle.std.proofs.Common.{◌<◌, arith}
use Rattle.am_values.specs.Cutting.{width}
use Rattle.am_values.proofs.Alike.{none_from, alike_step, alike_first, behind_more}
use Rattle.am_values.proofs.cutting.behind_each.Goals as goal

pub returns-in_err-rest-clause-none : goal.returns-in_err-rest-clause-none
returns-in_err-rest-clause-none c =
    let some : 0 < c.loop-left.left = omega (arith, c.loop-left-test.true) in
    none_from c.from_residual.result _ (λ a. c.in_err-rest.ensures.none (alike_first c.loop-left.left c.args.number c.loop-left.rest.now some (c.loop-left.invariant.1.1 a)))

pub loop-left-preserved : goal.loop-left-preserved
loop-left-preserved c =
    let inv = c.loop-left.invariant in
    let cut = c.in_ok-rest.ensures.some in
    let some : 0 < c.loop-left.left = omega (arith, c.loop-left-test.true) in
    let step = alike_step c.loop-left.left c.args.number c.loop-left.rest.now c.in_ok-rest.rest.now some cut.0 cut.1 in
    (omega (arith, inv.0), ((λ a. inv.1.0 (step.0 a)), (λ a. step.1 (inv.1.1 a))), behind_more c.args.count c.loop-left.left (width c.args.number) c.args.raw.now c.loop-left.rest.now c.in_ok-rest.rest.now some inv.0 inv.2 cut.1)
