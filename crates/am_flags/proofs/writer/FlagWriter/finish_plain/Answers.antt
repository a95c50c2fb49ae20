use Rattle.am_flags.proofs.Writing.{plain_at_end}
use Rattle.am_flags.proofs.writer.FlagWriter.finish_plain.Goals as goal

pub returns-clause-ok : goal.returns-clause-ok
returns-clause-ok c = plain_at_end _ _ _ _ _ c.if-self.false c.self.invariant c.self.view_is c.in_ok-ended.field-0.items _ (c.in_ok-ended.ensures {u = tt}) c.from.ensures
