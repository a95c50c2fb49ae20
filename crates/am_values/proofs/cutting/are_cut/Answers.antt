use Rattle.std.proofs.Common.{arith, subst, refl}
use Rattle.am_values.specs.Columns.{NoneNull}
use Rattle.am_values.specs.Cutting.{AreCut}
use Rattle.am_values.proofs.Alike.{both_kept, uncut_alike, no_null}
use Rattle.am_values.proofs.cutting.are_cut.Goals as goal

pub returns-then-not-allow : goal.returns-then-not-allow
returns-then-not-allow c =
    let next = c.in-Some.ensures.next in (
      λ e. absurd (cc),
      λ w. absurd (cc (c.if-not-allow.ensures.1 (λ f. no_null c.in-Some.count c.in-Some.number c.next_alike_within.new.self (omega (arith, next.0)) (subst NoneNull next.2 ((c.loop-number.invariant.1 w).1 f))))),
    )

pub returns-in-None : goal.returns-in-None
returns-in-None c =
    let rest = c.loop-number.rest.now in (
      λ e. absurd (cc),
      λ w. absurd (c.in-None.ensures.none (uncut_alike c.in-Some.count c.in-Some.number c.next_alike_within.new.self rest (subst (λ l. AreCut l rest) c.in-Some.ensures.next.2 (c.loop-number.invariant.1 w).0))),
    )

pub loop-number-preserved : goal.loop-number-preserved
loop-number-preserved c =
    let cut = c.in-Some-behind_alike.ensures.some in
    let kept = both_kept c.args.nulls c.in-Some.count c.in-Some.number c.next_alike_within.new.self c.loop-number.numbers c.loop-number.rest.now c.in-Some-behind_alike.behind.now c.in-Some.ensures.next.2 (c.if-not-allow.ensures.0 refl) cut.0 cut.1 in
    ((λ a. c.loop-number.invariant.0 (kept.0 a)), (λ a. kept.1 (c.loop-number.invariant.1 a)))
