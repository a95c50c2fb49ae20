use Rattle.std.proofs.Common.{◌++◌, vec_items, sym, subst, ◌∙◌}
use Rattle.am_delivery.specs.Waiting.{waiting_of, taken_out, AreLent}
use Rattle.am_delivery.proofs.delivering.bring_to_rest.Goals as goal

pub finish_with-requires-clause-joined : goal.finish_with-requires-clause-joined
finish_with-requires-clause-joined g c =
    let W = waiting_of c.args.waiting.now in
    let hs = vec_items c.in_ok-gone.gone.joined in (
      hs,
      c.in_ok-gone.ensures.joined ∙ (λ i. (c.requires.rest ∙ sym c.settle_all.ensures.base) i ++ taken_out hs W),
      c.in_ok-gone.ensures.named,
      subst (λ l. AreLent l hs W) (sym c.as_slice.ensures.value) c.in_ok-gone.ensures.lent,
    )
