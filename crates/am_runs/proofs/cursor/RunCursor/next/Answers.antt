use Rattle.std.proofs.Common.{sym, ◌∙◌, arith}
use Rattle.am_runs.proofs.Entries.{entries-more, HasEntries-more, never_ends, entries-none}
use Rattle.am_runs.proofs.cursor.RunCursor.next.Goals as goal

pub returns-then-self-eq0-clause-end : goal.returns-then-self-eq0-clause-end
returns-then-self-eq0-clause-end g c = let e = sym c.self.view_is ∙ entries-none _ _ _ c.if-self-eq0.true in (e, e)

pub invariant_of-self : goal.invariant_of-self
invariant_of-self g c = HasEntries-more _ _ _ _ (omega arith) c.in-Some.ensures c.self.invariant

pub returns-in-None-clause-end : goal.returns-in-None-clause-end
returns-in-None-clause-end g c = absurd (never_ends _ _ _ (omega arith) c.in-None.ensures c.self.invariant)

pub returns-in-Some-clause-next : goal.returns-in-Some-clause-next
returns-in-Some-clause-next g c = sym c.self.view_is ∙ entries-more _ _ _ _ (omega arith) c.in-Some.ensures
