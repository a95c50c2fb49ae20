use Rattle.std.proofs.Common.{arith, sym, subst}
use Rattle.am_runs.specs.Items.{IsItem, unsigned_end}
use Rattle.am_runs.specs.ItemLaws.{unsigned_is}
use Rattle.am_runs.proofs.ItemIs.{unsigned_item}
use Rattle.am_runs.proofs.item.unsigned_items.Goals as goal

pub returns : goal.returns
returns c = (λ e. unsigned_is _ (λ i. omega (arith, c.type_inv.bytes i)) e, λ w. subst (IsItem unsigned_end) (sym w.2) (unsigned_item w.0 w.1))
