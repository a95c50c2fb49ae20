use Rattle.am_merge.proofs.WalkRows.{walks_rows}
use Rattle.am_merge.proofs.laws.walks_rows.Goals as goal

pub returns : goal.returns
returns c = walks_rows
