use Rattle.std.proofs.Common.{sym, subst}
use Rattle.am_session.specs.Session.{Held}
use Rattle.am_session.specs.Views.{IsText}
use Rattle.am_session.proofs.Texts.{texts_kept}
use Rattle.am_session.proofs.session.Session.keep.Goals as goal

pub invariant_of-self : goal.invariant_of-self
invariant_of-self c = (
  texts_kept c.put.result c.self.inside.store.kept.closed c.self.inside.views c.put.new.self c.args.view c.args.text c.put.ensures.ok c.put.ensures.err c.self.invariant.0
      (subst (λ (h : Held). IsText h.kept.closed c.args.view c.args.text) (sym c.self.view_is) c.requires),
  c.self.invariant.1,
)
