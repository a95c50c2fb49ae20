use Rattle.std.proofs.Common.{arith, sym, ◌∙◌}
use Rattle.am_runs.proofs.Entries.{entries-more, HasEntries-more, never_ends}
use Rattle.am_runs.proofs.LiteralTexts.{literal_known}
use Rattle.am_runs.proofs.cursor.RunCursor+TextItem.literal_text.Goals as goal

pub text_behind-requires-clause-known : goal.text_behind-requires-clause-known
text_behind-requires-clause-known c = literal_known _ _ _ (omega arith) (omega arith) (cc) c.self.invariant

pub invariant_of-self : goal.invariant_of-self
invariant_of-self c = absurd (never_ends _ _ _ (omega arith) c.in-None.ensures.step c.self.invariant)

pub invariant_of-self-in-Some : goal.invariant_of-self-in-Some
invariant_of-self-in-Some c = HasEntries-more _ _ _ _ (omega arith) c.in-Some.ensures.step c.self.invariant

pub returns-in-None-clause-none : goal.returns-in-None-clause-none
returns-in-None-clause-none c = absurd (never_ends _ _ _ (omega arith) c.in-None.ensures.step c.self.invariant)

pub returns-in-Some-clause-found : goal.returns-in-Some-clause-found
returns-in-Some-clause-found c = (c.in-Some.field-0-1.now, c.in-Some.ensures.value, sym c.self.view_is ∙ entries-more _ _ _ _ (omega arith) c.in-Some.ensures.step)
