use Rattle.am_view.proofs.Walking.{walks_rows}
use Rattle.am_view.proofs.laws.walks_rows.Goals as goal

pub returns : goal.returns
returns c = walks_rows
