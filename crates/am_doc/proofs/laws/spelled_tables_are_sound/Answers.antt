use Rattle.am_doc.proofs.Sound as tables
use Rattle.am_doc.proofs.laws.spelled_tables_are_sound.Goals as goal

pub returns : goal.returns
returns c = tables.sound
