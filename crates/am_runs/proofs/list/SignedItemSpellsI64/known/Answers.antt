use Rattle.std.proofs.Common.{FitsSigned, w64, rules}
use Rattle.am_runs.proofs.ItemIs.{signed_item}
use Rattle.am_runs.proofs.list.SignedItemSpellsI64.known.Goals as goal

pub returns : goal.returns
returns c = let fits : FitsSigned w64 c.args._number = search rules in signed_item c.args._number fits
