use Rattle.std.proofs.Common.{◌∙◌}
use Rattle.am_delivery.proofs.Equality.{equal_is_same}
use Rattle.am_delivery.proofs.arriving.is_same.Goals as goal

pub returns : goal.returns
returns c = c.eq.ensures ∙ equal_is_same c.args.held.now c.args.change.now
