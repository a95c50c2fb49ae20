use Rattle.am_frame.proofs.FaultLaws.{one_fault, none_at_a_chunk}
use Rattle.am_frame.proofs.laws.one_fault.Goals as goal

pub returns : goal.returns
returns c = record { one = one_fault; none = none_at_a_chunk }
