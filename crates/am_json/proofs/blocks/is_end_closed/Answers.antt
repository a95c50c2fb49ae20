use Rattle.std.proofs.Common.{◌<◌, length, ap, sym, ◌∙◌, arith}
use Rattle.am_json.specs.Stretches.{Stretch, closes}
use Rattle.am_json.proofs.KeptLaws.{ends_at}
use Rattle.am_json.proofs.blocks.is_end_closed.Goals as goal

pub returns-in_default : goal.returns-in_default
returns-in_default c =
    let some : 0 < length c.args.list.now = omega arith in
    c.is_closing.ensures ∙ (ap (λ (s : Stretch). closes s.entry) c.index-list-count.is ∙ sym (ends_at c.args.list.now c.index-list-count.result some))
