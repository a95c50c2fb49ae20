use Rattle.std.proofs.Common.{rules, sym, ◌∙◌, FitsSigned, w64, subst, pos}
use Rattle.std.proofs.lemmas.Int.{to_z-of_z}
use Rattle.am_delta.specs.Deltas.{AllBetween, sums_from}
use Rattle.am_delta.proofs.Sums.{past_equal, front_between, passed, alike_taken}
use Rattle.am_delta.proofs.between.stays_between.Goals as goal

pub returns-in-None : goal.returns-in-None
returns-in-None c = (
  λ e. absurd (cc),
  λ b. absurd (c.in-None.ensures.none (front_between _ _ _ c.in-Some.difference c.in-Some.k c.loop-difference.differences (alike_taken _ _ _ _ c.in-Some.ensures.next.2).0 (c.loop-difference.invariant.1
      (subst (λ l. AllBetween l (passed c.args.high) (sums_from (pos 0) c.args.differences)) (sym (to_z-of_z w64 c.args.low c.ranges.low))
      (subst (λ h. AllBetween c.args.low h (sums_from (pos 0) c.args.differences)) (sym (to_z-of_z w64 c.args.high c.ranges.high)) b))))),
)

pub loop-difference-preserved : goal.loop-difference-preserved
loop-difference-preserved c =
    let end = c.in-Some-all_between.end in
    let fits : FitsSigned w64 end = search rules in
    let some = c.in-Some-all_between.ensures.some in
    let part = alike_taken c.in-Some.k c.in-Some.difference c.loop-difference.differences _ c.in-Some.ensures.next.2 in
    let w = past_equal _ _ _ (passed end) c.in-Some.difference c.in-Some.k c.loop-difference.differences (to_z-of_z w64 end fits ∙ some.0) part.0 some.1 in
    let rest = sym part.1 in (
      λ h. c.loop-difference.invariant.0 (w.0 (subst (λ l. AllBetween (passed c.args.low) (passed c.args.high) (sums_from (passed end) l)) rest h)),
      λ h. subst (λ l. AllBetween (passed c.args.low) (passed c.args.high) (sums_from (passed end) l)) (sym rest) (w.1 (c.loop-difference.invariant.1 h)),
    )
