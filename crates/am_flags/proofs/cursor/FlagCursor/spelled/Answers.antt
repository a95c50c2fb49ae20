use Rattle.std.proofs.Common.{sym}
use Rattle.am_flags.proofs.Counts.{known_nothing, known_counts}
use Rattle.am_flags.proofs.cursor.FlagCursor.spelled.Goals as goal

pub invariant_of-result : goal.invariant_of-result
invariant_of-result c = (known_nothing _ _ _ c.requires.1 c.requires.2 c.in_default.ensures.none).0

pub returns-in_default-clause-spelled : goal.returns-in_default-clause-spelled
returns-in_default-clause-spelled c = (known_nothing _ _ _ c.requires.1 c.requires.2 c.in_default.ensures.none).1

pub returns-in_default-clause-count : goal.returns-in_default-clause-count
returns-in_default-clause-count c = sym (known_nothing _ _ _ c.requires.1 c.requires.2 c.in_default.ensures.none).0.1

pub invariant_of-result-2 : goal.invariant_of-result-2
invariant_of-result-2 c = (known_counts _ _ _ _ _ c.requires.1 c.requires.2 c.in-Some.ensures.some.0 c.in-Some.ensures.some.1).0

pub returns-clause-spelled : goal.returns-clause-spelled
returns-clause-spelled c = (known_counts _ _ _ _ _ c.requires.1 c.requires.2 c.in-Some.ensures.some.0 c.in-Some.ensures.some.1).1

pub returns-clause-count : goal.returns-clause-count
returns-clause-count c = sym (known_counts _ _ _ _ _ c.requires.1 c.requires.2 c.in-Some.ensures.some.0 c.in-Some.ensures.some.1).0.1
