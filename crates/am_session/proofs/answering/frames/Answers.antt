use Rattle.std.proofs.Common.{rules}
use Rattle.am_session.specs.FirstFault.{is_file_stop}
use Rattle.am_session.proofs.FirstFault.{ended_ok}
use Rattle.am_session.proofs.Owed.{listed}
use Rattle.am_session.proofs.answering.frames.Goals as goal

pub returns-in_ok-list_frames-in-Some : goal.returns-in_ok-list_frames-in-Some
returns-in_ok-list_frames-in-Some g c = λ held. listed _ held _ _ c.in-Some.bytes.items _ (search rules) (search rules) c.fetched.ensures.same c.fetched.ensures.misses c.fetched.ensures.faults (ended_ok is_file_stop c.fetched.result _ _ _ c.in_ok-bytes.was c.fetched.ensures.ended)
