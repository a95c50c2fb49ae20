use Rattle.std.proofs.Common.{arith, sym, ap, ◌∙◌, take, length}
use Rattle.am_runs.proofs.Entries.{length-entries, never_ends, entries-none}
use Rattle.am_runs.proofs.cursor.RunCursor.like.Goals as goal

pub returns-then-self-eq0-clause-end : goal.returns-then-self-eq0-clause-end
returns-then-self-eq0-clause-end g c = sym c.self.view_is ∙ entries-none _ _ _ c.if-self-eq0.true

pub returns-in-None-clause-end : goal.returns-in-None-clause-end
returns-in-None-clause-end g c = absurd (never_ends _ _ _ (omega arith) (sym c.in-None.ensures.none) c.self.invariant)

pub returns-in-Some-clause-like : goal.returns-in-Some-clause-like
returns-in-Some-clause-like g c =
    let size = sym (length-entries _ _ _ c.self.invariant) ∙ ap length c.self.view_is in
    let k = c.in-Some.k in
    let found = c.in-Some.ensures.found in
    (omega (arith, found.0), omega (arith, found.1, size), ap (take k) (sym c.self.view_is) ∙ found.2.1 k _ (omega arith) found.1)
