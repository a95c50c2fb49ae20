use Rattle.std.proofs.Common.{rules}
use Rattle.am_session.specs.FirstFault.{is_file_stop}
use Rattle.am_session.proofs.FirstFault.{ended_ok}
use Rattle.am_session.proofs.Owed.{loaded}
use Rattle.am_session.proofs.answering.loaded.Goals as goal

pub returns-in_ok-apply-in-Some : goal.returns-in_ok-apply-in-Some
returns-in_ok-apply-in-Some g c = loaded _ _ _ _ _ c.in-Some.bytes.items _ (search rules) (search rules) c.fetched.ensures.same c.fetched.ensures.misses c.fetched.ensures.faults (ended_ok is_file_stop c.fetched.result _ _ _ c.in_ok-bytes.was c.fetched.ensures.ended)
