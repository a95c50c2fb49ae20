use Rattle.std.proofs.Common.{rules}
use Rattle.am_session.proofs.answering.answer.Goals as goal

-- what frames owes for whatever a session holds, it owes for what this one holds
pub returns-in-Do-Frames : goal.returns-in-Do-Frames
returns-in-Do-Frames g c = let owed = c.frames.ensures c.args.session.now in search rules
