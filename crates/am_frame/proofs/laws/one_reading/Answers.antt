use Rattle.am_frame.proofs.Unique.{one_file, one_bad, never_both}
use Rattle.am_frame.proofs.laws.one_reading.Goals as goal

pub returns : goal.returns
returns c = record { file = one_file; bad = one_bad; never_both = never_both }
