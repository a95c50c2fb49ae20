use Rattle.am_session.proofs.Delivering.{applied_whole}
use Rattle.am_session.proofs.apply.apply.Goals as goal

pub returns-in-Ok : goal.returns-in-Ok
returns-in-Ok c = applied_whole c.args.only_changes c.report_text.result c.args.bytes.now c.args.session.now _ c.in-Ok.report c.in-Ok.ensures.ok c.read_file.ensures.rest c.report_text.ensures
