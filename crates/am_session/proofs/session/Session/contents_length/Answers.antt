use Rattle.am_session.proofs.Settling.{still_right}
use Rattle.am_session.proofs.session.Session.contents_length.Goals as goal

pub invariant_of-self : goal.invariant_of-self
invariant_of-self c = still_right c.self.inside.store.kept c.settle.new.self.kept c.self.inside.views c.self.inside.heads c.settle.ensures.kept c.self.invariant

pub invariant_of-self-2 : goal.invariant_of-self-2
invariant_of-self-2 c = still_right c.self.inside.store.kept c.settle.new.self.kept c.self.inside.views c.self.inside.heads c.settle.ensures.kept c.self.invariant
