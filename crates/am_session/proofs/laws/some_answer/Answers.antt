use Rattle.am_session.proofs.SomeAnswer.{some_reply, some_found}
use Rattle.am_session.proofs.laws.some_answer.Goals as goal

pub returns : goal.returns
returns c old asked found same stands = some_reply asked old found (some_found c.args.bytes.now found (record {
  frames = c.some_reading.ensures;
  changes = c.some_reading-2.ensures;
  file = c.some_reading-3.ensures;
}) same) stands
