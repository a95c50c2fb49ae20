use Rattle.std.proofs.Common.{refl}
use Rattle.am_runs.proofs.Alike.{more_writing}
use Rattle.am_runs.proofs.writer.RunWriter.count_byte.Goals as goal

pub invariant_of-self : goal.invariant_of-self
invariant_of-self g c = (more_writing _ g.met.K.Item.reads _ _ _ _ _ _ _ _ _ _ c.if-self.false c.self.invariant c.self.view_is c.requires.room (c.if-not-is_byte.ensures refl)).0

pub returns-clause-more : goal.returns-clause-more
returns-clause-more g c = λ t. (more_writing _ g.met.K.Item.reads _ _ _ _ _ _ _ _ _ _ c.if-self.false c.self.invariant c.self.view_is c.requires.room (c.if-not-is_byte.ensures refl)).1
