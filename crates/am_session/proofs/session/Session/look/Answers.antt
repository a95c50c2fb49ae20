use Rattle.std.proofs.Common.{sym, subst}
use Rattle.am_session.specs.Views.{AreTexts, AreHeads}
use Rattle.am_session.proofs.Texts.{texts_looked}
use Rattle.am_session.proofs.session.Session.look.Goals as goal
use Rattle.am_session.proofs.session.Session.look.Goals.{in-Some+in_ok-text-in-Some, in-None}

pub invariant_of-self : goal.invariant_of-self
invariant_of-self c = (subst (AreTexts c.self.inside.store.kept.closed) (sym c.get.follows.holds-at-none) (texts_looked c.self.inside.store.kept.closed c.self.inside.views c.args.view.now c.self.invariant.0), c.self.invariant.1)

pub invariant_of-self-2 : goal.invariant_of-self-2
invariant_of-self-2 c =
    let right = subst (AreTexts c.self.inside.store.kept.closed) (sym c.get.follows.holds-at-none) (texts_looked c.self.inside.store.kept.closed c.self.inside.views c.args.view.now c.self.invariant.0) in
    elim c.match-get.branch [
      | in-Some+in_ok-text-in-Some w ↦ subst (λ s. AreTexts s.store.kept.closed s.views × AreHeads s.store.kept.closed s.heads) (sym w.self-inside-is) (right, c.self.invariant.1)
      | in-None w ↦ subst (λ s. AreTexts s.store.kept.closed s.views × AreHeads s.store.kept.closed s.heads) (sym w.self-inside-is) (right, c.self.invariant.1)
    ]
