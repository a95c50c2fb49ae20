use Rattle.am_doccols.proofs.GivenRows.{ids_given}
use Rattle.am_doccols.proofs.gathered_writing.push_ids.Goals as goal

pub returns : goal.returns
returns c = ids_given c.args.actors.now c.args.rows.now c.args.ids.now _ c.in_ok-push_column.ensures c.in_ok-push_id_counters.ensures
