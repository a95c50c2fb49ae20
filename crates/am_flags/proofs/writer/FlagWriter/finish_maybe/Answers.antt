use Rattle.std.proofs.Common.{arith}
use Rattle.std.proofs.lemmas.Grind.{common_steps}
use Rattle.am_flags.proofs.Writing.{maybe_bare, maybe_at_end}
use Rattle.am_flags.proofs.writer.FlagWriter.finish_maybe.Goals as goal

pub returns-then-is_empty-clause-ok : goal.returns-then-is_empty-clause-ok
returns-then-is_empty-clause-ok c = maybe_bare _ _ _ _ _ c.if-self.false c.self.invariant c.self.view_is (grind (arith, common_steps)) _ c.from.ensures

pub returns-clause-ok : goal.returns-clause-ok
returns-clause-ok c = maybe_at_end _ _ _ _ _ c.if-self.false c.self.invariant c.self.view_is (grind (arith, common_steps)) c.in_ok-ended.field-0.items _ (c.in_ok-ended.ensures {u = tt}) c.from-2.ensures
