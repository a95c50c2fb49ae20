use Rattle.am_doc.proofs.OneTable as tables
use Rattle.am_doc.proofs.laws.one_table.Goals as goal

pub returns : goal.returns
returns c = tables.one_table
