use Rattle.am_change.proofs.Parsing.{completed}
use Rattle.am_change.proofs.parse.parse_change_sharing.Goals as goal

pub returns-clause-complete : goal.returns-clause-complete
returns-clause-complete c = completed c.args.bytes.now c.parsed.result c.length_known.ensures c.parsed.ensures
