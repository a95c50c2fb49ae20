use Rattle.am_runs.proofs.Entries.{length-entries}
use Rattle.am_runs.proofs.RunsRead.{known_read}
use Rattle.am_runs.proofs.cursor.RunCursor.spelled.Goals as goal

pub invariant_of-result : goal.invariant_of-result
invariant_of-result g c = (known_read _ g.met.K.Item.reads c.args.bytes.now c.requires.0 c.args.count c.requires.1 c.requires.2).1

pub returns-clause-spelled : goal.returns-clause-spelled
returns-clause-spelled g c = (known_read _ g.met.K.Item.reads c.args.bytes.now c.requires.0 c.args.count c.requires.1 c.requires.2).0

pub returns-clause-count : goal.returns-clause-count
returns-clause-count g c = length-entries _ _ _ (known_read _ g.met.K.Item.reads c.args.bytes.now c.requires.0 c.args.count c.requires.1 c.requires.2).1
