use Rattle.std.proofs.Common.{◌-◌, ◌∙◌, drop, sym, ap}
use Rattle.am_fields.proofs.Stretches.{item_behind}
use Rattle.am_fields.proofs.wholes.last_of.Goals as goal

pub returns : goal.returns
returns c = item_behind (c.args.count - 1) c.args.numbers.now _ c.next.result (ap (drop (c.args.count - 1)) (sym c.again-rest.ensures) ∙ sym c.skip.ensures ∙ c.next.ensures)
