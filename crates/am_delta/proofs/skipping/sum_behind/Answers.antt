use Rattle.std.proofs.Common.{arith, rules, sym, ap, ◌∙◌, ◌≤◌, ◌-◌, FitsSigned, w64, subst, drop}
use Rattle.std.proofs.lemmas.Int.{to_z-of_z}
use Rattle.am_delta.specs.Deltas.{AllFit, sums_from}
use Rattle.am_delta.proofs.Sums.{fits_after, skips, passed, alike_taken}
use Rattle.am_delta.proofs.Copying.{last_skips}
use Rattle.am_delta.proofs.skipping.sum_behind.Goals as goal

pub value_after-value-requires : goal.value_after-value-requires
value_after-value-requires c =
    let k = c.in-Some.k in
    let least : k ≤ k = omega arith in
    let part = alike_taken k c.in-Some.difference c.loop-n.differences _ c.in-Some.ensures.next.2 in
    fits_after _ c.in-Some.difference k k _ c.in-Some.ensures.next.0 least (search rules) part.0 c.loop-n.invariant.0

pub loop-n-preserved : goal.loop-n-preserved
loop-n-preserved c =
    let k = c.in-Some.k in
    let least : k ≤ k = omega arith in
    let end = c.value_after-value.result in
    let fits : FitsSigned w64 end = search rules in
    let part = alike_taken k c.in-Some.difference c.loop-n.differences _ c.in-Some.ensures.next.2 in
    let w = skips _ (passed end) (passed c.args.value) c.in-Some.difference k k c.loop-n.n c.args.n c.loop-n.differences c.args.differences.now (to_z-of_z w64 end fits ∙ c.value_after-value.ensures) least c.in-Some.ensures.next.1 part.0 c.loop-n.invariant.0 c.loop-n.invariant.1 in (
      subst (λ l. AllFit (sums_from (passed end) l)) part.1 w.0,
      ap (λ l. drop (c.loop-n.n - k) (sums_from (passed end) l)) (sym part.1) ∙ w.1,
      last_skips _ (passed end) c.in-Some.difference k c.loop-n.n c.loop-n.differences _ (to_z-of_z w64 end fits ∙ c.value_after-value.ensures) c.in-Some.ensures.next.1 c.in-Some.ensures.next.2 ∙ c.loop-n.invariant.2,
    )
