use Rattle.std.proofs.Common.{◌∙◌, ◌∷◌, ap, arith, map, sym}
use Rattle.am_merge.specs.Stacks.{stacked}
use Rattle.am_merge.proofs.Aimed.{operation_in}
use Rattle.am_merge.proofs.Backwards.{drop_less}
use Rattle.am_merge.proofs.Stopping.{stacked_push}
use Rattle.am_merge.proofs.added.stack_of.Goals as goal

pub loop-i-preserved : goal.loop-i-preserved
loop-i-preserved c =
    let xs = c.args.starts.now in
    let m = c.loop-i.i in
    let x = c.index-starts-i.result in
    ap stacked c.in_ok-push.ensures.items
    ∙ stacked_push c.loop-i.all.items c.operation.result
    ∙ (λ i. c.operation.ensures i ∷ c.loop-i.invariant i)
    ∙ sym (ap (map operation_in) (drop_less xs m x (omega (arith, c.loop-i-test.true)) (omega (arith, c.loop-i.auto.i)) c.index-starts-i.is))
