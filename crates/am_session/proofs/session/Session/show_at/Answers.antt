use Rattle.am_session.proofs.Texts.{shown_again}
use Rattle.am_session.proofs.session.Session.show_at.Goals as goal

pub returns-in-Some : goal.returns-in-Some
returns-in-Some c =
    shown_again c.args.form c.args.hashes.now c.args.self.now c.look.new.self c.in_ok-view.view c.in_ok-text.field-0 c.in-Some.text
    c.in_ok-view.ensures c.in-Some.is c.in_ok-text.ensures.found c.in_ok-text.ensures.right c.look.ensures.after
