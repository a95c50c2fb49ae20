use Rattle.std.proofs.Common.{arith}
use Rattle.std.proofs.lemmas.Grind.{common_steps}
use Rattle.am_flags.proofs.Counts.{over_nothing, over_counts, first_counts, no_first}
use Rattle.am_flags.proofs.cursor.FlagCursor.over.Goals as goal

pub invariant_of-result : goal.invariant_of-result
invariant_of-result c = (over_nothing _ 0 (grind (arith, common_steps))).0

pub returns-then-is_empty-clause-ok : goal.returns-then-is_empty-clause-ok
returns-then-is_empty-clause-ok c = (over_nothing _ c.args.most (grind (arith, common_steps))).1

pub returns-in-None-clause-err : goal.returns-in-None-clause-err
returns-in-None-clause-err c = λ flags j. absurd (no_first _ flags (grind (arith, common_steps)) c.in-None.ensures.none j)

pub returns-then-count-most-clause-err : goal.returns-then-count-most-clause-err
returns-then-count-most-clause-err c = λ flags j. let w = first_counts _ _ _ flags (grind (arith, common_steps)) c.in-Some.ensures.some.0 c.in-Some.ensures.some.1 j in omega (arith, w.3)

pub invariant_of-result-in-Some-total_of : goal.invariant_of-result-in-Some-total_of
invariant_of-result-in-Some-total_of c = (over_counts _ _ _ _ c.args.most c.in-Some.ensures.some.0 c.in-Some.ensures.some.1 (omega arith) c.in-Some-total_of.ensures.some.0 c.in-Some-total_of.ensures.some.1).0

pub returns-in-None-total_of-clause-err : goal.returns-in-None-total_of-clause-err
returns-in-None-total_of-clause-err c = λ flags j. let w = first_counts _ _ _ flags (grind (arith, common_steps)) c.in-Some.ensures.some.0 c.in-Some.ensures.some.1 j in omega (arith, w.3, c.in-None-total_of.ensures.none w.0 w.1 w.2)

pub returns-in-Some-total_of-clause-ok : goal.returns-in-Some-total_of-clause-ok
returns-in-Some-total_of-clause-ok c = (over_counts _ _ _ _ c.args.most c.in-Some.ensures.some.0 c.in-Some.ensures.some.1 (omega arith) c.in-Some-total_of.ensures.some.0 c.in-Some-total_of.ensures.some.1).1
