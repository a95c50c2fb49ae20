use Rattle.std.proofs.Common.{◌-◌, ◌<◌, ◌∙◌, length, ap, sym, arith}
use Rattle.am_merge.specs.Walk.{is_first}
use Rattle.am_merge.proofs.Stopping.{some_left, top_is}
use Rattle.am_merge.proofs.stops.is_first.Goals as goal

pub returns : goal.returns
returns c r e =
    let ns = c.args.waiting.now in
    let some : 0 < length ns = some_left (length ns) (sym c.is_empty.ensures ∙ c.if-is_empty.false) in
    c.is_next.ensures r e ∙ ap (λ ws. is_first ws r) (sym (top_is ns (length ns - 1) c.index-waiting-top.result (omega arith) (omega arith) c.index-waiting-top.is))
