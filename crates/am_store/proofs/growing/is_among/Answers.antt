use Rattle.std.proofs.Common.{Some, sym, ap, ◌∙◌}
use Rattle.am_store.proofs.Picking.{told_same}
use Rattle.am_store.proofs.growing.is_among.Goals as goal

pub returns : goal.returns
returns c = told_same c.args.entries.now c.args.hash.now c.args.change.now c.change_at.result.now c.change_at.ensures ∙ ap Some (sym c.is_same.ensures)
