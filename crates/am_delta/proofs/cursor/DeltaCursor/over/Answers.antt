use Rattle.std.proofs.Common.{arith, refl, ap, ◌∙◌, subst, pos, length}
use Rattle.am_runs.proofs.Spelled.{one_signed}
use Rattle.am_delta.specs.Deltas.{AllBetween, sums_from}
use Rattle.am_delta.proofs.Sums.{AllFit-from_between, length-sums, as_passed}
use Rattle.am_delta.proofs.cursor.DeltaCursor.over.Goals as goal

between : (c : goal.Then-stays_between) → AllBetween c.args.low c.args.high (sums_from (pos 0) c.in-Ok.differences)
between c = (as_passed _ _ _ _ _ c.ranges.low c.ranges.high c.again.ensures c.stays_between.ensures).0 c.if-stays_between.true

pub invariant_of-result : goal.invariant_of-result
invariant_of-result c = AllFit-from_between _ _ _ c.ranges.low c.ranges.high (between c)

pub returns-in-Err-clause-err : goal.returns-in-Err-clause-err
returns-in-Err-clause-err c = λ values j l b. omega (arith, c.in-Err.ensures.err j.0 j.1, ap length j.2, length-sums (pos 0) j.0)

pub returns-then-stays_between-clause-ok : goal.returns-then-stays_between-clause-ok
returns-then-stays_between-clause-ok c = ((c.in-Ok.differences, c.in-Ok.ensures.ok.0, refl), omega (arith, c.in-Ok.ensures.ok.1, length-sums (pos 0) c.in-Ok.differences), between c)

pub returns-else-stays_between-clause-err : goal.returns-else-stays_between-clause-err
returns-else-stays_between-clause-err c = λ values j l b.
    let same = one_signed _ _ _ j.1 c.in-Ok.ensures.ok.0 in
    let h : AllBetween c.args.low c.args.high (sums_from (pos 0) c.in-Ok.differences) = subst (AllBetween c.args.low c.args.high) (j.2 ∙ ap (sums_from (pos 0)) same) b in
    let yes = (as_passed _ _ _ _ _ c.ranges.low c.ranges.high c.again.ensures c.stays_between.ensures).1 h in
    let no = c.if-stays_between.false in
    cc
