use Rattle.std.proofs.Common.{◌≡◌, ◌∙◌, false, sym, ap, subst}
use Rattle.am_store.specs.Kept.{Kept}
use Rattle.am_session.specs.Session.{Held}
use Rattle.am_session.specs.Replies.{is_refused}
use Rattle.am_session.specs.Reading.{reading_at}
use Rattle.am_session.specs.Views.{IsText}
use Rattle.am_session.proofs.Texts.{text_printed}
use Rattle.am_session.proofs.session.Session.print.Goals as goal

pub keep-requires : goal.keep-requires
keep-requires c =
    let told : is_refused c.in_ok-reply.reply ≡ false = ap is_refused (sym c.as_slice.ensures) ∙ sym c.refuses.ensures ∙ c.if-refuses.false in
    let same : c.settle.new.self.kept ≡ c.args.self.now.kept = c.settle.ensures.kept ∙ ap (λ (h : Held). h.kept) c.self.view_is in
    let is = c.in_ok-reply.ensures ∙ ap (λ (k : Kept). reading_at c.args.view.form c.args.hashes.now k.closed) (c.store.ensures ∙ same) in
    subst (λ (k : Kept). IsText k.closed c.args.view c.in_ok-text.text) (sym same)
    (subst (IsText c.args.self.now.kept.closed c.args.view) (sym c.in_ok-text.ensures)
    (text_printed c.args.self.now.kept.closed c.args.view c.args.hashes.now c.in_ok-reply.reply c.requires.heads is told))
