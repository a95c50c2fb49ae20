use Rattle.std.proofs.Common.{arith, sym, subst}
use Rattle.am_runs.specs.Items.{IsItem, text_end}
use Rattle.am_runs.proofs.ItemIs.{text_is, text_item}
use Rattle.am_runs.proofs.item.text_items.Goals as goal

pub returns : goal.returns
returns c = (λ e. text_is _ (λ i. omega (arith, c.type_inv.bytes i)) e, λ w. subst (IsItem text_end) (sym w.3) (text_item w.0 w.1 w.2))
