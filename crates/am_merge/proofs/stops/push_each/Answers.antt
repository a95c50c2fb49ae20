use Rattle.std.proofs.Common.{◌∙◌, ◌∷◌, ap, sym}
use Rattle.am_places.specs.Numbered.{operation_of}
use Rattle.am_merge.specs.Stacks.{stacked}
use Rattle.am_merge.proofs.Stopping.{push_step, stacked_push}
use Rattle.am_merge.proofs.stops.push_each.Goals as goal

pub loop-i-preserved : goal.loop-i-preserved
loop-i-preserved c =
    let h = c.index-hung-i.result in
    ap stacked c.in_ok-push.ensures.items
    ∙ stacked_push c.loop-i.waiting.items h.operation
    ∙ ap (λ l. operation_of h.operation ∷ l) c.loop-i.invariant
    ∙ sym (push_step c.args.hung.now c.loop-i.i h _ c.loop-i-test.true c.index-hung-i.is)
