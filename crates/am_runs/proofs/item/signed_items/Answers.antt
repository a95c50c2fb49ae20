use Rattle.std.proofs.Common.{arith, sym, subst}
use Rattle.am_runs.specs.Items.{IsItem, signed_end}
use Rattle.am_runs.proofs.ItemIs.{signed_is, signed_item}
use Rattle.am_runs.proofs.item.signed_items.Goals as goal

pub returns : goal.returns
returns c = (λ e. signed_is _ (λ i. omega (arith, c.type_inv.bytes i)) e, λ w. subst (IsItem signed_end) (sym w.2) (signed_item w.0 w.1))
