use Rattle.std.proofs.Common.{◌<◌, ◌^◌, rules}
use Rattle.am_runs.proofs.ItemIs.{unsigned_item}
use Rattle.am_runs.proofs.list.UnsignedItemSpellsU64.known.Goals as goal

pub returns : goal.returns
returns c = let fits : c.args._number < 2 ^ 64 = search rules in unsigned_item c.args._number fits
