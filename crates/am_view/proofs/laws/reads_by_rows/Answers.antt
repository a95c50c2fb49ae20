use Rattle.am_view.proofs.Reading.{reads_by_rows}
use Rattle.am_view.proofs.laws.reads_by_rows.Goals as goal

pub returns : goal.returns
returns c = reads_by_rows
